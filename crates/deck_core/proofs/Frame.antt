-- What every tick has in common: one hart moves, and the others stay where they are.
use Rattle.std.proofs.Common.{◌≡◌, ℕ, suc, zero, ◌^◌, ◌<◌, ◌≤◌, ◌==◌, ◌||◌, Bool, true, false, not, refl, sym, ◌∙◌, ap, subst, inl, inr, arith}
use Rattle.std.proofs.lemmas.Bool.{cases_eq, eq-eqb, ne_eqb, eqb-true, both_ways, cond-true, cond-false, and_parts, or_right, or_left}
use Rattle.mach_base.specs.Masks.{has_bit}
use Rattle.deck_core.specs.plain.Words.{mask_of, holder_of}
use Rattle.deck_core.specs.ticks.Phases.{is_masters, own_word, is_finished, is_marked, is_in_session, KeepsOldNumber, holds, counts}
use Rattle.deck_core.specs.contract.Told.{Told, IsTold}
use Rattle.deck_core.specs.ticks.Configuration.{Configuration, put, lead_of}
use Rattle.deck_core.specs.Invariant.{Sound, TurnAt, HartFits, MarkFits, LeadFits}
use Rattle.deck_core.specs.declared.plain.phase.Phase.{Phase}
use Rattle.deck_core.specs.declared.plain.phase.Phase.TheVariants as phase
use Rattle.deck_core.specs.declared.plain.phase.Place.{Place}
use Rattle.deck_core.specs.declared.plain.phase.Place.TheVariants as place
use Rattle.deck_core.proofs.TurnWords.{mask_of-small, holder_of-small}
use Rattle.mach_base.proofs.Bits.{has_bit-zero, pow_32}

pub put_same : {A : Type 0} (f : ℕ → A) (h : ℕ) (v : A) → put f h v h ≡ v
unfolding put
put_same f h v = cond-true (h == h) v (f h) (eq-eqb h h refl)

pub put_other : {A : Type 0} (f : ℕ → A) (h : ℕ) (v : A) (k : ℕ) → (k ≡ h → ⊥) → put f h v k ≡ f k
unfolding put
put_other f h v k ne = cond-false (k == h) v (f k) (ne_eqb k h ne)

-- a function that differs from another at h alone
pub record Moves {A : Type 0} (f : ℕ → A) (h : ℕ) (v : A) (g : ℕ → A) : Type 0 where
  pub here : g h ≡ v
  pub others : (k : ℕ) → (k ≡ h → ⊥) → g k ≡ f k

pub put_moves : {A : Type 0} (f : ℕ → A) (h : ℕ) (v : A) → Moves f h v (put f h v)
put_moves f h v = record { here = put_same f h v; others = put_other f h v }

pub stays : {A : Type 0} (f : ℕ → A) (h : ℕ) (v : A) → f h ≡ v → Moves f h v f
stays f h v e = record { here = e; others = λ k ne. refl }

-- a fact about each number's value, from the fact at h and at the others
pub at_each : {A : Type 0} (P : A → ℕ → Type 0) (f : ℕ → A) (h : ℕ) (v : A) (g : ℕ → A) → Moves f h v g → P v h → ((k : ℕ) → (k ≡ h → ⊥) → P (f k) k) → (k : ℕ) → P (g k) k
at_each P f h v g m here others k =
    elim (cases_eq k h) [
      | inl e ↦ subst (λ j. P (g j) j) (sym e) (subst (λ w. P w h) (sym m.here) here)
      | inr ne ↦ subst (λ w. P w k) (sym (m.others k ne)) (others k ne)
    ]

-- the same of two functions
pub at_each_2 : {A B : Type 0} (P : A → B → ℕ → Type 0) (f : ℕ → A) (f2 : ℕ → B) (h : ℕ) (v : A) (v2 : B) (g : ℕ → A) (g2 : ℕ → B) → Moves f h v g → Moves f2 h v2 g2 → P v v2 h → ((k : ℕ) → (k ≡ h → ⊥) → P (f k) (f2 k) k) → (k : ℕ) → P (g k) (g2 k) k
at_each_2 P f f2 h v v2 g g2 m m2 here others k =
    elim (cases_eq k h) [
      | inl e ↦ subst (λ j. P (g j) (g2 j) j) (sym e) (subst (λ w. P (g h) w h) (sym m2.here) (subst (λ w. P w v2 h) (sym m.here) here))
      | inr ne ↦ subst (λ w. P (g k) w k) (sym (m2.others k ne)) (subst (λ w. P w (f2 k) k) (sym (m.others k ne)) (others k ne))
    ]

-- a master's phase names the master
pub master_of : (c : Configuration) (h : ℕ) → Sound c → is_masters (c.phase h) ≡ true → c.master ≡ suc h
master_of c h s m = eqb-true c.master (suc h) (sym (s.harts h).masters ∙ m)

pub no_master : (c : Configuration) (h : ℕ) → Sound c → is_masters (c.phase h) ≡ false → c.master ≡ suc h → ⊥
no_master c h s m e = both_ways (c.master == suc h) (sym (s.harts h).masters ∙ m) (eq-eqb c.master (suc h) e)

-- the lead of a master
pub lead_here : (master : ℕ) (phases : ℕ → Phase) (h : ℕ) → master ≡ suc h → lead_of master phases ≡ phases h
lead_here master phases h e = ap (λ m. lead_of m phases) e

-- the lead stays where another hart moves
pub lead_other : (master : ℕ) (phases : ℕ → Phase) (h : ℕ) (p : Phase) (next : ℕ → Phase) → Moves phases h p next → (master ≡ suc h → ⊥) → lead_of master next ≡ lead_of master phases
lead_other zero phases h p next m ne = refl
lead_other (suc k) phases h p next m ne = m.others k (λ e. ne (ap suc e))

-- an old number stays one
pub old_number_grows : (gate gate2 : ℕ) (p : Phase) → gate ≤ gate2 → KeepsOldNumber gate p → KeepsOldNumber gate2 p
old_number_grows gate gate2 (phase.Mark at) le o = record { odd = o.odd; low = o.low; high = omega (arith, o.high) }
old_number_grows gate gate2 (phase.Parked at) le o = record { odd = o.odd; low = o.low; high = omega (arith, o.high) }
old_number_grows gate gate2 (phase.Unmark at) le o = (record { odd = o.0.odd; low = o.0.low; high = omega (arith, o.0.high) }, omega (arith, o.1))
old_number_grows gate gate2 phase.Run le o = tt
old_number_grows gate gate2 phase.Called le o = tt
old_number_grows gate gate2 phase.Wish le o = tt
old_number_grows gate gate2 phase.Want le o = tt
old_number_grows gate gate2 phase.Own le o = tt
old_number_grows gate gate2 phase.Shut le o = tt
old_number_grows gate gate2 (phase.Send to) le o = tt
old_number_grows gate gate2 (phase.Gather looks) le o = tt
old_number_grows gate gate2 (phase.Enter kept reopens) le o = tt
old_number_grows gate gate2 (phase.Pull kept left) le o = tt
old_number_grows gate gate2 (phase.Lines kept) le o = tt
old_number_grows gate gate2 (phase.PlantStep kept at) le o = tt
old_number_grows gate gate2 (phase.PassStep kept planted) le o = tt
old_number_grows gate gate2 (phase.PullStep kept follows) le o = tt
old_number_grows gate gate2 (phase.Plant kept left) le o = tt
old_number_grows gate gate2 (phase.Close kept) le o = tt
old_number_grows gate gate2 phase.OpenGate le o = tt
old_number_grows gate gate2 phase.Drop le o = tt
old_number_grows gate gate2 phase.Free le o = tt
old_number_grows gate gate2 phase.Finished le o = tt

-- a hart that doesn't move, where the gate's number grows, the master word changes but not to or from its number, and an
-- ending may come to stand
pub hart_stays : (gate gate2 master master2 : ℕ) (over over2 : Bool) (p : Phase) (own k : ℕ) → gate ≤ gate2 → (over ≡ true → over2 ≡ true) → (master == suc k) ≡ (master2 == suc k) → HartFits gate master over p own k → HartFits gate2 master2 over2 p own k
hart_stays gate gate2 master master2 over over2 p own k le o e f = record {
  own_word = f.own_word;
  finished = λ h. o (f.finished h);
  masters = f.masters ∙ e;
  old_number = old_number_grows gate gate2 p le f.old_number;
}

pub or_second : (x y : Bool) → x ≡ false → (x || y) ≡ true → y ≡ true
or_second x y f e = ap (λ z. z || y) (sym f) ∙ e

-- the mask of a bus fits the turn word
pub mask_below : (b : Told) → IsTold b → b.mask < 2 ^ 32
mask_below b t = omega (arith, t.mask, pow_32 b.harts t.few_harts)

-- the turn is given back
pub given_back : (turn mask h : ℕ) (places : ℕ → Place) (next : ℕ → Place) → mask < 2 ^ 32 → ((k : ℕ) → TurnAt turn (places k) k) → holds (places h) ≡ true → Moves places h place.Peek next → (k : ℕ) → TurnAt mask (next k) k
given_back turn mask h places next lt t held m =
    let free : (k : ℕ) → (holder_of mask == suc k) ≡ false = λ k. ne_eqb (holder_of mask) (suc k) (λ e. omega (arith, e, holder_of-small mask lt)) in
    let holder : holder_of turn ≡ suc h = eqb-true (holder_of turn) (suc h) (sym (t h).holder ∙ held) in
    at_each (λ w k. TurnAt mask w k) places h place.Peek next m
    (record { holder = sym (free h); seen = tt })
    (λ k ne. record {
      holder = (t k).holder ∙ (ne_eqb (holder_of turn) (suc k) (λ e. ne (omega (arith, e, holder))) ∙ sym (free k));
      seen = (t k).seen;
    })

-- hart h moves to the phase p, the words and the bus change to these, and lead is then the master's phase
pub record Step (c : Configuration) (h : ℕ) (p : Phase) (lead : Phase) (turn master gate : ℕ) (own : ℕ → ℕ) (phases : ℕ → Phase) (places : ℕ → Place) (b : Told) : Type 0 where
  pub told : IsTold b
  pub mask : mask_of turn ≡ b.mask
  pub turns : (k : ℕ) → TurnAt turn (places k) k
  pub few : master ≤ b.harts
  pub phase_moves : Moves c.phase h p phases
  pub own_moves : Moves c.own h (own_word p) own
  pub gate_grows : c.gate ≤ gate
  pub over_stays : c.told.over ≡ true → b.over ≡ true
  pub same_master : (k : ℕ) → (k ≡ h → ⊥) → (c.master == suc k) ≡ (master == suc k)
  pub here : HartFits gate master b.over p (own_word p) h
  pub leads : lead_of master phases ≡ lead
  pub mark : MarkFits b.harts b.mask gate master lead p h
  pub marks : (k : ℕ) → (k ≡ h → ⊥) → MarkFits b.harts b.mask gate master lead (c.phase k) k
  pub lead_fits : LeadFits c.limit master gate lead b

pub moved : (c : Configuration) (h : ℕ) (p lead : Phase) (turn master gate : ℕ) (own : ℕ → ℕ) (phases : ℕ → Phase) (places : ℕ → Place) (b : Told) → Sound c → Step c h p lead turn master gate own phases places b → Sound (record c { turn = turn; master = master; gate = gate; own = own; phase = phases; place = places; told = b })
moved c h p lead turn master gate own phases places b s t = record {
  limit = s.limit;
  told = t.told;
  mask = t.mask;
  turn = t.turns;
  master = t.few;
  harts = at_each_2 (λ q o k. HartFits gate master b.over q o k) c.phase c.own h p (own_word p) phases own t.phase_moves t.own_moves t.here
      (λ k ne. hart_stays c.gate gate c.master master c.told.over b.over (c.phase k) (c.own k) k t.gate_grows t.over_stays (t.same_master k ne) (s.harts k));
  marks = subst (λ l. (k : ℕ) → MarkFits b.harts b.mask gate master l (phases k) k) (sym t.leads)
      (at_each (λ q k. MarkFits b.harts b.mask gate master lead q k) c.phase h p phases t.phase_moves t.mark t.marks);
  lead = subst (λ l. LeadFits c.limit master gate l b) (sym t.leads) t.lead_fits;
}

-- ---- a hart that isn't the master

pub counts_needs_master : (harts master : ℕ) (phases : ℕ → Phase) (k : ℕ) → counts harts (lead_of master phases) k ≡ true → master ≡ 0 → ⊥
counts_needs_master harts zero phases k h = absurd (both_ways false refl h)
counts_needs_master harts (suc m) phases k h = λ e. omega (arith, e)

pub mask_needs_master : (c : Configuration) (k : ℕ) → Sound c → has_bit c.told.mask k ≡ true → c.master ≡ 0 → ⊥
mask_needs_master c k s h e =
    let empty : c.told.mask ≡ 0 = s.lead.mask (ap (λ m. is_in_session (lead_of m c.phase)) e) in
    both_ways (has_bit c.told.mask k) (ap (λ m. has_bit m k) empty ∙ has_bit-zero k) h

-- a hart that isn't the master goes from its phase to another one that is no master's; its mark stays where there is a
-- master
pub record OtherStep (c : Configuration) (h : ℕ) (p : Phase) (own : ℕ → ℕ) (b : Told) : Type 0 where
  pub before : is_masters (c.phase h) ≡ false
  pub next : is_masters p ≡ false
  pub finished : is_finished p ≡ true → b.over ≡ true
  pub old_number : KeepsOldNumber c.gate p
  pub own_moves : Moves c.own h (own_word p) own
  pub mark_stays : (c.master ≡ 0 → ⊥) → is_marked c.gate (c.phase h) ≡ true → is_marked c.gate p ≡ true

pub other_step : (c : Configuration) (h : ℕ) (p : Phase) (turn : ℕ) (own : ℕ → ℕ) (places : ℕ → Place) (b : Told) → Sound c → OtherStep c h p own b → IsTold b → mask_of turn ≡ b.mask → ((k : ℕ) → TurnAt turn (places k) k) → b.harts ≡ c.told.harts → b.mask ≡ c.told.mask → (c.told.over ≡ true → b.over ≡ true) → LeadFits c.limit c.master c.gate (lead_of c.master c.phase) b → Sound (record c { turn = turn; own = own; phase = put c.phase h p; place = places; told = b })
other_step c h p turn own places b s o fits mask turns same_harts same_mask over lead =
    let m : Moves c.phase h p (put c.phase h p) = put_moves c.phase h p in
    let no : (c.master == suc h) ≡ false = sym (s.harts h).masters ∙ o.before in
    let leads : lead_of c.master (put c.phase h p) ≡ lead_of c.master c.phase = lead_other c.master c.phase h p (put c.phase h p) m (no_master c h s o.before) in
    let marks : (k : ℕ) → MarkFits b.harts b.mask c.gate c.master (lead_of c.master c.phase) (c.phase k) k =
    λ k. subst (λ n. MarkFits n b.mask c.gate c.master (lead_of c.master c.phase) (c.phase k) k) (sym same_harts)
    (subst (λ n. MarkFits c.told.harts n c.gate c.master (lead_of c.master c.phase) (c.phase k) k) (sym same_mask) (s.marks k)) in
    moved c h p (lead_of c.master c.phase) turn c.master c.gate own (put c.phase h p) places b s (record {
      told = fits;
      mask = mask;
      turns = turns;
      few = subst (λ n. c.master ≤ n) (sym same_harts) s.master;
      phase_moves = m;
      own_moves = o.own_moves;
      gate_grows = omega arith;
      over_stays = over;
      same_master = λ k ne. refl;
      here = record { own_word = refl; finished = o.finished; masters = o.next ∙ sym no; old_number = o.old_number };
      leads = leads;
      mark = record {
        gathered = λ e. o.mark_stays
            (counts_needs_master b.harts c.master c.phase h ((and_parts (counts b.harts (lead_of c.master c.phase) h) (not (c.master == suc h)) e).0))
            ((marks h).gathered e);
        masked = λ e.
            let marked : is_marked c.gate (c.phase h) ≡ true = or_second (c.master == suc h) (is_marked c.gate (c.phase h)) no ((marks h).masked e) in
            or_right (c.master == suc h) (is_marked c.gate p)
            (o.mark_stays (mask_needs_master c h s (subst (λ n. has_bit n h ≡ true) same_mask e)) marked);
      };
      marks = λ k ne. marks k;
      lead_fits = lead;
    })

-- the same, where the turn and the bus stay
pub other_moves : (c : Configuration) (h : ℕ) (p : Phase) (own : ℕ → ℕ) → Sound c → OtherStep c h p own c.told → Sound (record c { own = own; phase = put c.phase h p })
other_moves c h p own s o = other_step c h p c.turn own c.place c.told s o s.told s.mask s.turn refl refl (λ e. e) s.lead

-- ---- the master

-- what is known where hart h is the master, in this phase
pub record Mine (c : Configuration) (h : ℕ) (p : Phase) : Type 0 where
  pub master : c.master ≡ suc h
  pub below : h < c.told.harts
  pub lead : LeadFits c.limit (suc h) c.gate p c.told
  pub marks : (k : ℕ) → MarkFits c.told.harts c.told.mask c.gate (suc h) p (c.phase k) k

pub mine : (c : Configuration) (h : ℕ) (p : Phase) → Sound c → c.phase h ≡ p → is_masters p ≡ true → Mine c h p
mine c h p s e m =
    let master : c.master ≡ suc h = master_of c h s (ap is_masters e ∙ m) in
    let leads : lead_of c.master c.phase ≡ p = lead_here c.master c.phase h master ∙ e in
    record {
      master = master;
      below = omega (arith, master, s.master);
      lead = subst (λ l. LeadFits c.limit (suc h) c.gate l c.told) leads
          (subst (λ n. LeadFits c.limit n c.gate (lead_of c.master c.phase) c.told) master s.lead);
      marks = λ k. subst (λ l. MarkFits c.told.harts c.told.mask c.gate (suc h) l (c.phase k) k) leads
          (subst (λ n. MarkFits c.told.harts c.told.mask c.gate n (lead_of c.master c.phase) (c.phase k) k) master (s.marks k));
    }

-- the master goes to another phase of a master
pub record MasterStep (c : Configuration) (h : ℕ) (p : Phase) (gate : ℕ) (own : ℕ → ℕ) (b : Told) : Type 0 where
  pub next : is_masters p ≡ true
  pub old_number : KeepsOldNumber gate p
  pub own_moves : Moves c.own h (own_word p) own
  pub gate_grows : c.gate ≤ gate
  pub marks : (k : ℕ) → (k ≡ h → ⊥) → MarkFits b.harts b.mask gate (suc h) p (c.phase k) k
  pub lead_fits : LeadFits c.limit (suc h) gate p b

-- a master's phase is no finished one
pub master_not_finished : (p : Phase) → is_masters p ≡ true → is_finished p ≡ true → ⊥
master_not_finished phase.Finished m f = both_ways false refl m
master_not_finished _ m f = both_ways false refl f

-- the master itself isn't gathered, and may be in the mask
pub master_mark : (harts mask gate h : ℕ) (lead p : Phase) → MarkFits harts mask gate (suc h) lead p h
master_mark harts mask gate h lead p =
    let same : (suc h == suc h) ≡ true = eq-eqb (suc h) (suc h) refl in
    record {
      gathered = λ e. absurd (both_ways (not (suc h == suc h)) (ap not same) ((and_parts (counts harts lead h) (not (suc h == suc h)) e).1));
      masked = λ e. or_left (suc h == suc h) (is_marked gate p) same;
    }

pub master_step : (c : Configuration) (h : ℕ) (from p : Phase) (turn gate : ℕ) (own : ℕ → ℕ) (places : ℕ → Place) (b : Told) → Sound c → Mine c h from → MasterStep c h p gate own b → IsTold b → mask_of turn ≡ b.mask → ((k : ℕ) → TurnAt turn (places k) k) → b.harts ≡ c.told.harts → (c.told.over ≡ true → b.over ≡ true) → Sound (record c { turn = turn; gate = gate; own = own; phase = put c.phase h p; place = places; told = b })
master_step c h from p turn gate own places b s i m fits mask turns same_harts over =
    let back : suc h ≡ c.master = sym i.master in
    moved c h p p turn c.master gate own (put c.phase h p) places b s (record {
      told = fits;
      mask = mask;
      turns = turns;
      few = subst (λ n. c.master ≤ n) (sym same_harts) s.master;
      phase_moves = put_moves c.phase h p;
      own_moves = m.own_moves;
      gate_grows = m.gate_grows;
      over_stays = over;
      same_master = λ k ne. refl;
      here = record {
        own_word = refl;
        finished = λ e. absurd (master_not_finished p m.next e);
        masters = m.next ∙ sym (eq-eqb c.master (suc h) i.master);
        old_number = m.old_number;
      };
      leads = lead_here c.master (put c.phase h p) h i.master ∙ put_same c.phase h p;
      mark = subst (λ n. MarkFits b.harts b.mask gate n p p h) back (master_mark b.harts b.mask gate h p p);
      marks = λ k ne. subst (λ n. MarkFits b.harts b.mask gate n p (c.phase k) k) back (m.marks k ne);
      lead_fits = subst (λ n. LeadFits c.limit n gate p b) back m.lead_fits;
    })

-- the same, where the turn and the bus stay
pub master_moves : (c : Configuration) (h : ℕ) (from p : Phase) (gate : ℕ) (own : ℕ → ℕ) → Sound c → Mine c h from → MasterStep c h p gate own c.told → Sound (record c { gate = gate; own = own; phase = put c.phase h p })
master_moves c h from p gate own s i m = master_step c h from p c.turn gate own c.place c.told s i m s.told s.mask s.turn refl (λ e. e)

-- the same, where the bus was called, and the turn is given back
pub master_gives : (c : Configuration) (h : ℕ) (from p : Phase) (b : Told) → Sound c → Mine c h from → MasterStep c h p c.gate c.own b → IsTold b → holds (c.place h) ≡ true → b.harts ≡ c.told.harts → (c.told.over ≡ true → b.over ≡ true) → Sound (record c { turn = b.mask; phase = put c.phase h p; place = put c.place h place.Peek; told = b })
master_gives c h from p b s i m fits held same over =
    master_step c h from p b.mask c.gate c.own (put c.place h place.Peek) b s i m fits
    (mask_of-small b.mask (mask_below b fits))
    (given_back c.turn b.mask h c.place (put c.place h place.Peek) (mask_below b fits) s.turn held (put_moves c.place h place.Peek))
    same over

-- the same of a hart that isn't the master
pub other_gives : (c : Configuration) (h : ℕ) (p : Phase) (b : Told) → Sound c → OtherStep c h p c.own b → IsTold b → holds (c.place h) ≡ true → b.harts ≡ c.told.harts → b.mask ≡ c.told.mask → (c.told.over ≡ true → b.over ≡ true) → LeadFits c.limit c.master c.gate (lead_of c.master c.phase) b → Sound (record c { turn = b.mask; phase = put c.phase h p; place = put c.place h place.Peek; told = b })
other_gives c h p b s o fits held same same_mask over lead =
    other_step c h p b.mask c.own (put c.place h place.Peek) b s o fits
    (mask_of-small b.mask (mask_below b fits))
    (given_back c.turn b.mask h c.place (put c.place h place.Peek) (mask_below b fits) s.turn held (put_moves c.place h place.Peek))
    same same_mask over lead
