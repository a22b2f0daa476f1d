-- What the phases of an open session have in common, and the opening of a session.
use Rattle.std.proofs.Common.{◌≡◌, ℕ, suc, ◌+◌, ◌-◌, ◌*◌, ◌^◌, ◌<◌, ◌≤◌, ◌==◌, ◌&&◌, Bool, true, false, not, nat_lt, refl, sym, ◌∙◌, ap, subst, inl, inr, arith, if◌then◌else◌, Option, Some, None}
use Rattle.std.proofs.lemmas.Bool.{cases_Bool, eq-eqb, ne_eqb, eqb-true, eqb-false, lt-ltb, both_ways, and_parts, and_from, or_cases, or_right}
use Rattle.mach_base.specs.Masks.{has_bit, all_but}
use Rattle.deck_core.specs.ticks.Phases.{is_masters, own_word, is_shut, is_before_opening, is_in_session, is_at_gate, late_of, is_marked, KeepsOldNumber, holds, counts, called}
use Rattle.deck_core.specs.contract.Told.{Told, IsTold}
use Rattle.deck_core.specs.ticks.Configuration.{Configuration}
use Rattle.deck_core.specs.ticks.Tick.{gives}
use Rattle.deck_core.specs.ticks.NextPhase.{pulling, after_enter, enter_answer}
use Rattle.deck_core.specs.Invariant.{Sound, Working, KeepsInRange, LateFits, LeftFits, StepFits, session_fits, stage_fits, bit, openings}
use Rattle.deck_core.specs.declared.plain.notes.Sitting.{Sitting}
use Rattle.deck_core.specs.declared.plain.notes.Stage.{Stage}
use Rattle.deck_core.specs.declared.plain.notes.Stage.TheVariants as stage
use Rattle.deck_core.specs.declared.plain.phase.Phase.{Phase}
use Rattle.deck_core.specs.declared.plain.phase.Phase.TheVariants as phase
use Rattle.deck_core.specs.declared.plain.phase.Kept.{Kept}
use Rattle.deck_core.specs.declared.plain.phase.Then.{Then}
use Rattle.deck_core.specs.contract.Calls.{EnterGives, opened, mask_inside}
use Rattle.deck_core.specs.laws.Keeps.{KeepsIn}
use Rattle.deck_core.specs.declared.plain.act.Entered.{Entered}
use Rattle.mach_base.proofs.Bits.{has_bit-all_but_inside, all_but-lt, has_bit-below}
use Rattle.deck_core.proofs.Frame.{stays, Mine, mine, master_gives}
use Rattle.deck_core.proofs.Transactions.{tick_at, call_keeps}
use Rattle.deck_core.proofs.Outside.{own_of}
use Rattle.deck_core.proofs.Elects.{bit_and_false}

-- a phase of a master from the shutting of the gate to its opening, with every other hart called
pub record Within (p : Phase) : Type 0 where
  pub masters : is_masters p ≡ true
  pub own : own_word p ≡ 1
  pub shut : is_shut p ≡ true
  pub at_gate : is_at_gate p ≡ true
  pub called : (harts master : ℕ) → called harts master p ≡ harts - 1

-- the next one, in which nobody is counted
pub record Inside (p : Phase) : Type 0 where
  pub within : Within p
  pub number : (gate : ℕ) → KeepsOldNumber gate p
  pub counts : (harts k : ℕ) → counts harts p k ≡ false
  pub before : is_before_opening p ≡ false

-- the master goes on inside its session: the gate, the calls and the late harts stay
pub inside_gives : (c : Configuration) (h : ℕ) (from p : Phase) (b : Told) → Sound c → c.phase h ≡ from → Within from → Inside p → is_in_session p ≡ true → holds (c.place h) ≡ true → IsTold b → b.harts ≡ c.told.harts → ((k : ℕ) → (k ≡ h → ⊥) → has_bit b.mask k ≡ true → is_marked c.gate (c.phase k) ≡ true) → (c.told.over ≡ true → b.over ≡ true) → c.told.lines ≤ b.lines → b.sends ≡ c.told.sends → KeepsInRange c.limit c.told.harts (suc h) p → (b.over ≡ false → Working (suc h) c.gate p b) → Sound (gives h p b c)
inside_gives c h from p b s e w n session held fits harts mask over lines sends range working =
    let i : Mine c h from = mine c h from s e w.masters in
    master_gives c h from p b s i (record {
      next = n.within.masters;
      old_number = n.number c.gate;
      own_moves = stays c.own h (own_word p) (own_of c h from s e ∙ (w.own ∙ sym n.within.own));
      gate_grows = omega arith;
      marks = λ k ne. record {
        gathered = λ x. absurd (both_ways (counts b.harts p k) (n.counts b.harts k) ((and_parts (counts b.harts p k) (not (suc h == suc k)) x).0));
        masked = λ x. or_right (suc h == suc k) (is_marked c.gate (c.phase k)) (mask k ne x);
      };
      lead_fits = record {
        range = subst (λ x. KeepsInRange c.limit x (suc h) p) (sym harts) range;
        low = i.lead.low;
        parity = i.lead.parity ∙ (ap bit w.shut ∙ sym (ap bit n.within.shut));
        mask = λ x. absurd (both_ways (is_in_session p) x session);
        trap = λ x. absurd (both_ways (is_before_opening p) n.before x);
        lines =
            (let g : openings c.gate ≤ c.told.lines + bit (c.told.over && false) =
            subst (λ x. openings c.gate ≤ c.told.lines + bit (c.told.over && not x)) w.at_gate i.lead.lines in
            omega (arith, g, bit_and_false c.told.over, lines));
        sends =
            (let g : c.told.sends ≤ (c.told.harts - 1) * openings c.gate + (c.told.harts - 1) =
            subst (λ x. c.told.sends ≤ (c.told.harts - 1) * openings c.gate + x) (w.called c.told.harts (suc h)) i.lead.sends in
            subst (λ x. b.sends ≤ (b.harts - 1) * openings c.gate + x) (sym (n.within.called b.harts (suc h)))
            (subst (λ x. b.sends ≤ (x - 1) * openings c.gate + (x - 1)) (sym harts)
            (subst (λ x. x ≤ (c.told.harts - 1) * openings c.gate + (c.told.harts - 1)) (sym sends) g)));
        working = working;
      };
    })
    fits held harts over

-- the harts in the mask other than the master are marked
pub mask_marked : (c : Configuration) (h : ℕ) (from : Phase) (b : Told) → Mine c h from → b.mask ≡ c.told.mask → (k : ℕ) → (k ≡ h → ⊥) → has_bit b.mask k ≡ true → is_marked c.gate (c.phase k) ≡ true
mask_marked c h from b i same k ne x =
    elim (or_cases (suc h == suc k) (is_marked c.gate (c.phase k)) ((i.marks k).masked (ap (λ m. has_bit m k) (sym same) ∙ x))) [
      | inl q ↦ absurd (ne (omega (arith, eqb-true (suc h) (suc k) q)))
      | inr q ↦ q
    ]

pub pull_inside : (kept : Kept) (left : ℕ) → Inside (phase.Pull kept left)
pull_inside kept left = record { within = record { masters = refl; own = refl; shut = refl; at_gate = refl; called = λ x y. refl }; number = λ g. tt; counts = λ x y. refl; before = refl }

pub lines_inside : (kept : Kept) → Inside (phase.Lines kept)
lines_inside kept = record { within = record { masters = refl; own = refl; shut = refl; at_gate = refl; called = λ x y. refl }; number = λ g. tt; counts = λ x y. refl; before = refl }

pub plant_step_inside : (kept : Kept) (at : ℕ) → Inside (phase.PlantStep kept at)
plant_step_inside kept at = record { within = record { masters = refl; own = refl; shut = refl; at_gate = refl; called = λ x y. refl }; number = λ g. tt; counts = λ x y. refl; before = refl }

pub pass_step_inside : (kept : Kept) (planted : Bool) → Inside (phase.PassStep kept planted)
pass_step_inside kept planted = record { within = record { masters = refl; own = refl; shut = refl; at_gate = refl; called = λ x y. refl }; number = λ g. tt; counts = λ x y. refl; before = refl }

pub pull_step_inside : (kept : Kept) (follows : Then) → Inside (phase.PullStep kept follows)
pull_step_inside kept follows = record { within = record { masters = refl; own = refl; shut = refl; at_gate = refl; called = λ x y. refl }; number = λ g. tt; counts = λ x y. refl; before = refl }

pub plant_inside : (kept : Kept) (left : ℕ) → Inside (phase.Plant kept left)
plant_inside kept left = record { within = record { masters = refl; own = refl; shut = refl; at_gate = refl; called = λ x y. refl }; number = λ g. tt; counts = λ x y. refl; before = refl }

pub close_inside : (kept : Kept) → Inside (phase.Close kept)
close_inside kept = record { within = record { masters = refl; own = refl; shut = refl; at_gate = refl; called = λ x y. refl }; number = λ g. tt; counts = λ x y. refl; before = refl }

pub enter_inside : (kept : Kept) → Inside (phase.Enter kept true)
enter_inside kept = record { within = record { masters = refl; own = refl; shut = refl; at_gate = refl; called = λ x y. refl }; number = λ g. tt; counts = λ x y. refl; before = refl }

pub enter_within : (kept : Kept) (reopens : Bool) → Within (phase.Enter kept reopens)
enter_within kept reopens = record { masters = refl; own = refl; shut = refl; at_gate = refl; called = λ x y. refl }

-- an ending stands: nothing more is needed of the bus
pub ended : (m gate : ℕ) (p : Phase) (b : Told) → b.over ≡ true → b.over ≡ false → Working m gate p b
ended m gate p b o w = absurd (both_ways b.over w o)

-- where an ending stands, the call changes nothing, and the master goes on to this phase
pub ended_gives : (c : Configuration) (h : ℕ) (from p : Phase) → Sound c → c.phase h ≡ from → Within from → Inside p → is_in_session p ≡ true → holds (c.place h) ≡ true → c.told.over ≡ true → KeepsInRange c.limit c.told.harts (suc h) p → Sound (gives h p c.told c)
ended_gives c h from p s e w n session held o range =
    let i : Mine c h from = mine c h from s e w.masters in
    inside_gives c h from p c.told s e w n session held s.told refl (mask_marked c h from c.told i refl) (λ x. x) (omega arith) refl range (ended (suc h) c.gate p c.told o)

-- the session of the master, as it was opened
pub sits : (h late faults : ℕ) (at : Stage) (lead : Phase) → late_of lead ≡ late → stage_fits (has_bit faults h) lead at ≡ true → session_fits (suc h) lead faults (Some (record { master = record { 0 = h }; late = late; stage = at })) ≡ true
sits h late faults at lead same fits =
    and_from ((suc h == suc h) && (late == late_of lead)) (stage_fits (has_bit faults h) lead at)
    (and_from (suc h == suc h) (late == late_of lead) (eq-eqb (suc h) (suc h) refl) (eq-eqb late (late_of lead) (sym same))) fits

-- ---- Enter

-- the session is open: planted words are pulled, or lines are run
opened_working : (m gate h : ℕ) (kept : Kept) (b : Told) (mask planted traps faults : ℕ) (next : Option ℕ) (plantable : Bool) → b.step ≡ None → planted ≡ b.planted → (zero_left : Bool) → (planted == 0) ≡ zero_left → Working (suc h) gate (if zero_left then phase.Lines kept else phase.Pull kept planted) (record b { mask = mask; session = Some (record { master = record { 0 = h }; late = kept.late; stage = stage.Lines }); traps = traps; faults = faults; next = next; plantable = plantable })
opened_working m gate h kept b mask planted traps faults next plantable step same true z = record {
  session = sits h kept.late faults stage.Lines (phase.Lines kept) refl refl;
  planted = sym same ∙ eqb-true planted 0 z;
  step = step;
  read = λ x. absurd (both_ways false refl x);
}
opened_working m gate h kept b mask planted traps faults next plantable step same false z = record {
  session = sits h kept.late faults stage.Lines (phase.Pull kept planted) refl refl;
  planted = sym same;
  step = step;
  read = λ x. absurd (both_ways false refl x);
}

-- the master, with this number plus 1, may go on to this phase of its session
pub record GoesInside (limit harts m : ℕ) (p : Phase) : Type 0 where
  pub inside : Inside p
  pub session : is_in_session p ≡ true
  pub range : KeepsInRange limit harts m p

-- places are left for this phase, or none are, and the other one follows
pub left_goes : (limit harts m left : ℕ) (done more : Phase) → GoesInside limit harts m done → (LeftFits left → GoesInside limit harts m more) → left < 2 ^ 16 → (zero_left : Bool) → (left == 0) ≡ zero_left → GoesInside limit harts m (if zero_left then done else more)
left_goes limit harts m left done more d g lt true z = d
left_goes limit harts m left done more d g lt false z =
    let ne : left ≡ 0 → ⊥ = eqb-false left 0 z in
    g (record { some = omega (arith, ne); places = lt })

pub pulling_goes : (limit harts m : ℕ) (kept : Kept) (left : ℕ) → LateFits harts m kept.late → left < 2 ^ 16 → (zero_left : Bool) → (left == 0) ≡ zero_left → GoesInside limit harts m (if zero_left then phase.Lines kept else phase.Pull kept left)
pulling_goes limit harts m kept left f lt z e =
    left_goes limit harts m left (phase.Lines kept) (phase.Pull kept left) (record { inside = lines_inside kept; session = refl; range = f })
    (λ l. record { inside = pull_inside kept left; session = refl; range = (f, l) }) lt z e

-- the harts of the mask after the opening are marked
inside_marked : (c : Configuration) (h : ℕ) (kept : Kept) (reopens : Bool) → Mine c h (phase.Enter kept reopens) → c.told.over ≡ false → (session : Option Sitting) → c.told.session ≡ session → (k : ℕ) → (k ≡ h → ⊥) → has_bit (mask_inside kept.late c.told session) k ≡ true → is_marked c.gate (c.phase k) ≡ true
inside_marked c h kept reopens i w (Some sitting) t k ne x = mask_marked c h (phase.Enter kept reopens) c.told i refl k ne x
inside_marked c h kept true i w None t k ne x =
    absurd (both_ways false refl (subst (λ z. session_fits (suc h) (phase.Enter kept true) c.told.faults z ≡ true) t (i.lead.working w).session))
inside_marked c h kept false i w None t k ne x =
    let small : kept.late < 2 ^ c.told.harts = i.lead.range.below in
    let below : k < c.told.harts = has_bit-below (all_but c.told.harts kept.late) c.told.harts k (all_but-lt c.told.harts kept.late small) x in
    let in_time : not (has_bit kept.late k) ≡ true = sym (has_bit-all_but_inside c.told.harts kept.late k below) ∙ x in
    (i.marks k).gathered
    (and_from (nat_lt k c.told.harts && not (has_bit kept.late k)) (not (suc h == suc k))
    (and_from (nat_lt k c.told.harts) (not (has_bit kept.late k)) (lt-ltb k c.told.harts below) in_time)
    (ap not (ne_eqb (suc h) (suc k) (λ q. ne (omega (arith, q))))))

-- there is no step word when a session opens
pub enter_step : (kept : Kept) (reopens : Bool) (step next : Option ℕ) (plantable stepped : Bool) → StepFits step next plantable stepped (phase.Enter kept reopens) → step ≡ None
enter_step kept reopens step next plantable stepped f = f

entered_in : (c : Configuration) (h : ℕ) (kept : Kept) (reopens : Bool) (after : Told) → Sound c → c.phase h ≡ phase.Enter kept reopens → holds (c.place h) ≡ true → c.told.over ≡ false → after ≡ opened h kept.late c.told after → IsTold after → Sound (gives h (pulling kept c.told.planted) after c)
entered_in c h kept reopens after s e held w g fits =
    let i : Mine c h (phase.Enter kept reopens) = mine c h (phase.Enter kept reopens) s e refl in
    let z : Bool = c.told.planted == 0 in
    let planted : ℕ = c.told.planted in
    let goes : GoesInside c.limit c.told.harts (suc h) (pulling kept planted) = pulling_goes c.limit c.told.harts (suc h) kept planted i.lead.range s.told.planted z refl in
    inside_gives c h (phase.Enter kept reopens) (pulling kept planted) after s e (enter_within kept reopens) goes.inside goes.session held fits
    (ap (λ b. b.harts) g)
    (λ k ne x. inside_marked c h kept reopens i w c.told.session refl k ne (ap (λ b. has_bit b.mask k) (sym g) ∙ x))
    (λ o. absurd (both_ways c.told.over w o))
    (subst (λ b. c.told.lines ≤ b.lines) (sym g) (omega arith))
    (ap (λ b. b.sends) g)
    goes.range
    (λ x. subst (λ b. Working (suc h) c.gate (pulling kept planted) b) (sym g)
    (opened_working (suc h) c.gate h kept c.told (mask_inside kept.late c.told c.told.session) planted after.traps after.faults after.next after.plantable
    (enter_step kept reopens c.told.step c.told.next c.told.plantable c.told.stepped (i.lead.working w).step) refl z refl))

entered_done : (c : Configuration) (h : ℕ) (kept : Kept) (reopens : Bool) (r : Entered) (after : Told) → Sound c → c.phase h ≡ phase.Enter kept reopens → holds (c.place h) ≡ true → EnterGives h kept.late c.told r after → IsTold after → Sound (gives h (after_enter kept r) after c)
entered_done c h kept reopens r after s e held g fits =
    elim (cases_Bool c.told.over) [
      | inl o ↦
          (let i : Mine c h (phase.Enter kept reopens) = mine c h (phase.Enter kept reopens) s e refl in
          let q = g.ended o in
          subst (λ x. Sound (gives h (after_enter kept x) after c)) (sym q.0)
          (subst (λ b. Sound (gives h (phase.Close kept) b c)) (sym q.1)
          (ended_gives c h (phase.Enter kept reopens) (phase.Close kept) s e (enter_within kept reopens) (close_inside kept) refl held o i.lead.range)))
      | inr w ↦
          (let q = g.working w in
          subst (λ x. Sound (gives h (after_enter kept x) after c)) (sym q.0) (entered_in c h kept reopens after s e held w q.1 fits))
    ]

pub enter_keeps : (kept : Kept) (reopens : Bool) → KeepsIn (phase.Enter kept reopens)
enter_keeps kept reopens c h a after s lt e honest = tick_at c h (phase.Enter kept reopens) a after e
    (call_keeps c h (phase.Enter kept reopens) a after s e refl honest
    (λ held acts.
    subst (λ x. Sound (gives h (after_enter kept (enter_answer x)) after c)) (sym acts.does.1.0)
    (entered_done c h kept reopens acts.does.0 after s e held acts.does.1.1 acts.fits)))
