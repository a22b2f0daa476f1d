-- The master before its session: the check of its trap, the shutting of the gate and the calls.
use Rattle.std.proofs.Common.{◌≡◌, ℕ, suc, ◌+◌, ◌-◌, ◌*◌, ◌%◌, ◌^◌, ◌<◌, ◌≤◌, ◌==◌, ◌&&◌, ◌⊎◌, Bool, true, false, not, nat_lt, refl, sym, ◌∙◌, ap, subst, inl, inr, arith, if◌then◌else◌, None, is_some}
use Rattle.std.proofs.lemmas.Bool.{cases_eq, cases_lt, cases_Bool, eq-eqb, ne_eqb, eqb-false, ltb-true, ltb-false, lt-ltb, le-ltb, both_ways, and_parts, or_right, not-true, cond-true, cond-false}
use Rattle.std.proofs.lemmas.Nat.{pow_pos}
use Rattle.mach_base.specs.Masks.{has_bit, mask_with, all_but}
use Rattle.deck_core.specs.ticks.Phases.{is_masters, own_word, is_shut, is_in_session, has_read, is_at_gate, KeepsOldNumber, holds, counts, called}
use Rattle.deck_core.specs.contract.Told.{Told, IsTold}
use Rattle.deck_core.specs.ticks.Configuration.{Configuration, put}
use Rattle.deck_core.specs.contract.Calls.{Changes, sent}
use Rattle.deck_core.specs.ticks.Tick.{gives}
use Rattle.deck_core.specs.ticks.NextPhase.{check_answer, after_check, after_send, first_look, entering, skipping}
use Rattle.deck_core.specs.Invariant.{Sound, MarkFits, LeadFits, KeepsInRange, LateFits, PlantedFits, StepFits, bit, openings}
use Rattle.deck_core.specs.declared.plain.phase.Phase.{Phase}
use Rattle.deck_core.specs.declared.plain.phase.Phase.TheVariants as phase
use Rattle.deck_core.specs.laws.Keeps.{KeepsIn}
use Rattle.mach_base.proofs.Bits.{has_bit-zero, has_bit-with_same, has_bit-all_but_inside, all_but-lt, mask_with-lt}
use Rattle.deck_core.proofs.Frame.{stays, Mine, mine, MasterStep, master_moves, master_gives}
use Rattle.deck_core.proofs.Transactions.{tick_at, call_keeps}
use Rattle.deck_core.proofs.Outside.{own_of, no_marks, quiet_working, lead_on}

-- a master in a phase in which it counts nobody
pub uncounted : (harts mask gate m k : ℕ) (lead lead2 p : Phase) → counts harts lead2 k ≡ false → MarkFits harts mask gate m lead p k → MarkFits harts mask gate m lead2 p k
uncounted harts mask gate m k lead lead2 p none f = record {
  gathered = λ e. absurd (both_ways (counts harts lead2 k) none ((and_parts (counts harts lead2 k) (not (m == suc k)) e).0));
  masked = f.masked;
}

-- a step of the master over which its own word stays
pub own_stays : (c : Configuration) (h : ℕ) (from p : Phase) (gate : ℕ) (b : Told) → Sound c → c.phase h ≡ from → own_word from ≡ own_word p → is_masters p ≡ true → KeepsOldNumber gate p → c.gate ≤ gate → ((k : ℕ) → (k ≡ h → ⊥) → MarkFits b.harts b.mask gate (suc h) p (c.phase k) k) → LeadFits c.limit (suc h) gate p b → MasterStep c h p gate c.own b
own_stays c h from p gate b s e same masters old grows marks lead = record {
  next = masters;
  old_number = old;
  own_moves = stays c.own h (own_word p) (own_of c h from s e ∙ same);
  gate_grows = grows;
  marks = marks;
  lead_fits = lead;
}

pub bit_and_false : (b : Bool) → bit (b && false) ≡ 0
bit_and_false true = refl
bit_and_false false = refl

-- ---- Own

-- the check of the trap leads on
to_shut : (c : Configuration) (h : ℕ) → LeadFits c.limit (suc h) c.gate phase.Own c.told → (not c.told.over && has_bit c.told.traps h) ≡ true → LeadFits c.limit (suc h) c.gate phase.Shut c.told
to_shut c h f t =
    let parts = and_parts (not c.told.over) (has_bit c.told.traps h) t in
    let working : c.told.over ≡ false = not-true c.told.over parts.0 in
    record {
      range = tt;
      low = f.low;
      parity = f.parity;
      mask = f.mask;
      trap = λ x. or_right c.told.over (has_bit c.told.traps h) parts.1;
      lines =
          (let g : openings c.gate ≤ c.told.lines + bit (false && true) = subst (λ b. openings c.gate ≤ c.told.lines + bit (b && true)) working f.lines in
          omega (arith, g));
      sends = f.sends;
      working = λ w. quiet_working (suc h) (suc h) c.gate c.gate phase.Own phase.Shut c.told c.told.sends (λ b at. refl) refl refl (λ x. x) (λ x. x) (f.working w);
    }

-- the check was made, and the master goes on to this phase
check_gives : (c : Configuration) (h : ℕ) (p : Phase) → Sound c → c.phase h ≡ phase.Own → holds (c.place h) ≡ true → 1 ≡ own_word p → is_masters p ≡ true → KeepsOldNumber c.gate p → ((k : ℕ) → counts c.told.harts p k ≡ false) → (LeadFits c.limit (suc h) c.gate phase.Own c.told → LeadFits c.limit (suc h) c.gate p c.told) → Sound (gives h p c.told c)
check_gives c h p s e held own masters old none lead =
    let i : Mine c h phase.Own = mine c h phase.Own s e refl in
    master_gives c h phase.Own p c.told s i
    (own_stays c h phase.Own p c.gate c.told s e own masters old (omega arith)
    (λ k ne. uncounted c.told.harts c.told.mask c.gate (suc h) k phase.Own p (c.phase k) (none k) (i.marks k)) (lead i.lead)) s.told held refl (λ o. o)

checked : (c : Configuration) (h : ℕ) → Sound c → c.phase h ≡ phase.Own → holds (c.place h) ≡ true → (trapped : Bool) → trapped ≡ (not c.told.over && has_bit c.told.traps h) → Sound (gives h (after_check trapped) c.told c)
checked c h s e held true t = check_gives c h phase.Shut s e held refl refl tt (λ k. refl) (λ f. to_shut c h f (sym t))
checked c h s e held false t =
    check_gives c h phase.Drop s e held refl refl tt (λ k. refl) (λ f. lead_on c.limit (suc h) (suc h) c.gate phase.Own phase.Drop c.told c.told.sends f tt refl refl refl (λ x. absurd (both_ways false refl x)) (omega arith) (λ b at. refl) refl refl (λ x. x) (λ x. x))

pub own_keeps : KeepsIn phase.Own
own_keeps c h a after s lt e honest = tick_at c h phase.Own a after e
    (call_keeps c h phase.Own a after s e refl honest
    (λ held acts.
    subst (λ x. Sound (gives h (after_check (check_answer x)) after c)) (sym acts.does.1.0)
    (subst (λ b. Sound (gives h (after_check (is_some acts.does.0)) b c)) (sym acts.does.1.1.told)
    (checked c h s e held (is_some acts.does.0) acts.does.1.1.some))))

-- ---- Shut

-- the late harts are others than the master
pub late_others : (harts h gathered : ℕ) → gathered < 2 ^ harts → h < harts → LateFits harts (suc h) (all_but harts (mask_with gathered h))
late_others harts h gathered lt below =
    let small : mask_with gathered h < 2 ^ harts = mask_with-lt harts gathered h lt below in
    record {
      below = all_but-lt harts (mask_with gathered h) small;
      others = λ k e. ne_eqb (suc h) (suc k) (λ x.
          let same : k ≡ h = omega (arith, x) in
          both_ways (has_bit (all_but harts (mask_with gathered h)) h)
          (has_bit-all_but_inside harts (mask_with gathered h) h below ∙ ap not (has_bit-with_same gathered h))
          (subst (λ j. has_bit (all_but harts (mask_with gathered h)) j ≡ true) same e));
    }

pub skipping_other : (h k : ℕ) → (suc h == suc (skipping h k)) ≡ false
skipping_other h k =
    elim (cases_eq k h) [
      | inl e ↦ subst (λ x. (suc h == suc x) ≡ false) (sym (cond-true (k == h) (k + 1) k (eq-eqb k h e))) (ne_eqb (suc h) (suc (k + 1)) (λ x. omega (arith, x, e)))
      | inr ne ↦ subst (λ x. (suc h == suc x) ≡ false) (sym (cond-false (k == h) (k + 1) k (ne_eqb k h ne))) (ne_eqb (suc h) (suc k) (λ x. ne (omega (arith, x))))
    ]

-- a hart skipped is the master
pub skipping_is : (h k : ℕ) → ((k ≡ h) × (skipping h k ≡ k + 1)) ⊎ ((k ≡ h → ⊥) × (skipping h k ≡ k))
skipping_is h k =
    elim (cases_eq k h) [
      | inl e ↦ inl (e, cond-true (k == h) (k + 1) k (eq-eqb k h e))
      | inr ne ↦ inr (ne, cond-false (k == h) (k + 1) k (ne_eqb k h ne))
    ]

-- how many were called before the call of a hart
pub called_is : (harts h to : ℕ) → ((to < suc h) × (called harts (suc h) (phase.Send to) ≡ to)) ⊎ ((suc h ≤ to) × (called harts (suc h) (phase.Send to) ≡ to - 1))
called_is harts h to =
    elim (cases_lt to (suc h)) [
      | inl p ↦ inl (p, cond-true (nat_lt to (suc h)) to (to - 1) (lt-ltb to (suc h) p))
      | inr p ↦ inr (p, cond-false (nat_lt to (suc h)) to (to - 1) (le-ltb to (suc h) p))
    ]

pub called_first : (harts h : ℕ) → called harts (suc h) (phase.Send (skipping h 0)) ≡ 0
called_first harts h =
    elim (skipping_is h 0) [
      | inl a ↦ elim (called_is harts h (skipping h 0)) [ inl b ↦ omega (arith, a.0, a.1, b.0, b.1) | inr b ↦ omega (arith, a.0, a.1, b.0, b.1) ]
      | inr a ↦ elim (called_is harts h (skipping h 0)) [ inl b ↦ omega (arith, a.0, a.1, b.0, b.1) | inr b ↦ omega (arith, a.0, a.1, b.0, b.1) ]
    ]

-- the gate is shut: the number becomes odd, and nothing was opened
shut_lead : (c : Configuration) (h : ℕ) (p : Phase) → LeadFits c.limit (suc h) c.gate phase.Shut c.told → KeepsInRange c.limit c.told.harts (suc h) p → is_shut p ≡ true → is_at_gate p ≡ true → is_in_session p ≡ false → has_read p ≡ false → called c.told.harts (suc h) p ≡ 0 → (c.told.planted ≡ c.told.enabled → PlantedFits c.told.planted c.told.enabled p) → (c.told.step ≡ None → StepFits c.told.step c.told.next c.told.plantable c.told.stepped p) → LeadFits c.limit (suc h) (suc c.gate) p c.told
shut_lead c h p f range shut gate inside unread none planted step =
    let even : c.gate % 2 ≡ 0 = f.parity in
    let same : openings (suc c.gate) ≡ openings c.gate = omega (arith, even, f.low) in
    record {
      range = range;
      low = omega (arith, f.low);
      parity =
          (let odd : suc c.gate % 2 ≡ 1 = omega (arith, even) in odd ∙ sym (ap bit shut));
      mask = λ x. f.mask refl;
      trap = λ x. f.trap refl;
      lines =
          (let g : openings c.gate ≤ c.told.lines + bit (c.told.over && false) = f.lines in
          omega (arith, g, bit_and_false c.told.over, same));
      sends =
          (let g : c.told.sends ≤ (c.told.harts - 1) * openings c.gate + 0 = f.sends in
          subst (λ o. c.told.sends ≤ (c.told.harts - 1) * o + called c.told.harts (suc h) p) (sym same)
          (subst (λ n. c.told.sends ≤ (c.told.harts - 1) * openings c.gate + n) (sym none) g));
      working = λ w. quiet_working (suc h) (suc h) c.gate (suc c.gate) phase.Shut p c.told c.told.sends (λ b at. refl) inside unread planted step (f.working w);
    }

shut_in : (c : Configuration) (h : ℕ) → Sound c → c.phase h ≡ phase.Shut → (more : Bool) → nat_lt (skipping h 0) c.told.harts ≡ more → Sound (record c { gate = suc c.gate; phase = put c.phase h (if more then phase.Send (skipping h 0) else entering c.told.harts h 0) })
shut_in c h s e true t =
    let i : Mine c h phase.Shut = mine c h phase.Shut s e refl in
    master_moves c h phase.Shut (phase.Send (skipping h 0)) (suc c.gate) c.own s i
    (own_stays c h phase.Shut (phase.Send (skipping h 0)) (suc c.gate) c.told s e refl refl tt (omega arith)
    (λ k ne. no_marks c.told.harts c.told.mask (suc c.gate) (suc h) k (phase.Send (skipping h 0)) (c.phase k) (i.lead.mask refl) refl)
    (shut_lead c h (phase.Send (skipping h 0)) i.lead (record { below = ltb-true (skipping h 0) c.told.harts t; other = skipping_other h 0 })
    refl refl refl refl (called_first c.told.harts h) (λ x. x) (λ x. x)))
shut_in c h s e false t =
    let i : Mine c h phase.Shut = mine c h phase.Shut s e refl in
    let one : c.told.harts ≤ skipping h 0 = ltb-false (skipping h 0) c.told.harts t in
    let alone : c.told.harts ≡ 1 = elim (skipping_is h 0) [ inl a ↦ omega (arith, a.0, a.1, one, s.told.some_harts) | inr a ↦ omega (arith, a.1, one, s.told.some_harts) ] in
    let late : ℕ = all_but c.told.harts (mask_with 0 h) in
    master_moves c h phase.Shut (entering c.told.harts h 0) (suc c.gate) c.own s i
    (own_stays c h phase.Shut (entering c.told.harts h 0) (suc c.gate) c.told s e refl refl tt (omega arith)
    (λ k ne. record {
      gathered = λ x.
          let p = and_parts (nat_lt k c.told.harts) (not (has_bit late k)) ((and_parts (counts c.told.harts (entering c.told.harts h 0) k) (not (suc h == suc k)) x).0) in
          absurd (ne (omega (arith, ltb-true k c.told.harts p.0, alone, i.below)));
      masked = λ x. absurd (both_ways (has_bit c.told.mask k) (ap (λ m. has_bit m k) (i.lead.mask refl) ∙ has_bit-zero k) x);
    })
    (shut_lead c h (entering c.told.harts h 0) i.lead (late_others c.told.harts h 0 (pow_pos c.told.harts) i.below)
    refl refl refl refl (omega (arith, alone)) (λ x. x) (λ x. x)))

pub shut_keeps : KeepsIn phase.Shut
shut_keeps c h a after s lt e honest = tick_at c h phase.Shut a after e (shut_in c h s e (nat_lt (skipping h 0) c.told.harts) refl)

-- ---- Send

-- the next call is one more
called_next : (harts h to : ℕ) → (suc h == suc to) ≡ false → called harts (suc h) (phase.Send (skipping h (to + 1))) ≡ suc (called harts (suc h) (phase.Send to))
called_next harts h to other =
    let ne : h ≡ to → ⊥ = λ x. eqb-false (suc h) (suc to) other (ap suc x) in
    elim (skipping_is h (to + 1)) [
      | inl a ↦ elim (called_is harts h (skipping h (to + 1))) [
        | inl b ↦ elim (called_is harts h to) [ inl d ↦ omega (arith, a.0, a.1, b.0, b.1, d.0, d.1, ne) | inr d ↦ omega (arith, a.0, a.1, b.0, b.1, d.0, d.1, ne) ]
        | inr b ↦ elim (called_is harts h to) [ inl d ↦ omega (arith, a.0, a.1, b.0, b.1, d.0, d.1, ne) | inr d ↦ omega (arith, a.0, a.1, b.0, b.1, d.0, d.1, ne) ]
      ]
      | inr a ↦ elim (called_is harts h (skipping h (to + 1))) [
        | inl b ↦ elim (called_is harts h to) [ inl d ↦ omega (arith, a.0, a.1, b.0, b.1, d.0, d.1, ne) | inr d ↦ omega (arith, a.0, a.1, b.0, b.1, d.0, d.1, ne) ]
        | inr b ↦ elim (called_is harts h to) [ inl d ↦ omega (arith, a.0, a.1, b.0, b.1, d.0, d.1, ne) | inr d ↦ omega (arith, a.0, a.1, b.0, b.1, d.0, d.1, ne) ]
      ]
    ]

-- after the last call all others were called
called_last : (harts h to : ℕ) → h < harts → to < harts → (suc h == suc to) ≡ false → harts ≤ skipping h (to + 1) → suc (called harts (suc h) (phase.Send to)) ≤ harts - 1
called_last harts h to lt lt2 other over =
    let ne : h ≡ to → ⊥ = λ x. eqb-false (suc h) (suc to) other (ap suc x) in
    elim (skipping_is h (to + 1)) [
      | inl a ↦ elim (called_is harts h to) [ inl d ↦ omega (arith, a.0, a.1, d.0, d.1, ne, over, lt, lt2) | inr d ↦ omega (arith, a.0, a.1, d.0, d.1, ne, over, lt, lt2) ]
      | inr a ↦ elim (called_is harts h to) [ inl d ↦ omega (arith, a.0, a.1, d.0, d.1, ne, over, lt, lt2) | inr d ↦ omega (arith, a.0, a.1, d.0, d.1, ne, over, lt, lt2) ]
    ]

send_in : (c : Configuration) (h to : ℕ) (sends : ℕ) → Sound c → c.phase h ≡ phase.Send to → holds (c.place h) ≡ true → sends ≤ suc c.told.sends → IsTold (record c.told { sends = sends }) → (more : Bool) → nat_lt (skipping h (to + 1)) c.told.harts ≡ more → Sound (gives h (if more then phase.Send (skipping h (to + 1)) else first_look h) (record c.told { sends = sends }) c)
send_in c h to sends s e held one fits true t =
    let i : Mine c h (phase.Send to) = mine c h (phase.Send to) s e refl in
    master_gives c h (phase.Send to) (phase.Send (skipping h (to + 1))) (record c.told { sends = sends }) s i
    (own_stays c h (phase.Send to) (phase.Send (skipping h (to + 1))) c.gate (record c.told { sends = sends }) s e refl refl tt (omega arith)
    (λ k ne. uncounted c.told.harts c.told.mask c.gate (suc h) k (phase.Send to) (phase.Send (skipping h (to + 1))) (c.phase k) refl (i.marks k))
    (lead_on c.limit (suc h) (suc h) c.gate (phase.Send to) (phase.Send (skipping h (to + 1))) c.told sends i.lead
    (record { below = ltb-true (skipping h (to + 1)) c.told.harts t; other = skipping_other h (to + 1) }) refl refl refl (λ x. i.lead.trap refl)
    (omega (arith, one, called_next c.told.harts h to i.lead.range.other)) (λ b at. refl) refl refl (λ x. x) (λ x. x)))
    fits held refl (λ o. o)
send_in c h to sends s e held one fits false t =
    let i : Mine c h (phase.Send to) = mine c h (phase.Send to) s e refl in
    let ne : h ≡ to → ⊥ = λ x. eqb-false (suc h) (suc to) i.lead.range.other (ap suc x) in
    let two : skipping h 0 < c.told.harts = elim (skipping_is h 0) [ inl a ↦ omega (arith, a.0, a.1, ne, i.lead.range.below) | inr a ↦ omega (arith, a.1, s.told.some_harts) ] in
    master_gives c h (phase.Send to) (first_look h) (record c.told { sends = sends }) s i
    (own_stays c h (phase.Send to) (first_look h) c.gate (record c.told { sends = sends }) s e refl refl tt (omega arith)
    (λ k ne. uncounted c.told.harts c.told.mask c.gate (suc h) k (phase.Send to) (first_look h) (c.phase k) (has_bit-zero k) (i.marks k))
    (lead_on c.limit (suc h) (suc h) c.gate (phase.Send to) (first_look h) c.told sends i.lead
    (record {
      next = record { below = two; other = skipping_other h 0 };
      rounds = s.limit;
      gathered = pow_pos c.told.harts;
      others = λ k x. absurd (both_ways (has_bit 0 k) (has_bit-zero k) x);
    }) refl refl refl (λ x. i.lead.trap refl)
    (omega (arith, one, called_last c.told.harts h to i.below i.lead.range.below i.lead.range.other (ltb-false (skipping h (to + 1)) c.told.harts t))) (λ b at. refl) refl refl (λ x. x) (λ x. x)))
    fits held refl (λ o. o)

send_done : (c : Configuration) (h to : ℕ) (after : Told) → Sound c → c.phase h ≡ phase.Send to → holds (c.place h) ≡ true → Changes c.told after (sent c.told) → IsTold after → Sound (gives h (after_send c.told.harts h to) after c)
send_done c h to after s e held g fits =
    elim (cases_Bool c.told.over) [
      | inl o ↦ subst (λ b. Sound (gives h (after_send c.told.harts h to) b c)) (sym (g.ended o))
          (send_in c h to c.told.sends s e held (omega arith) s.told (nat_lt (skipping h (to + 1)) c.told.harts) refl)
      | inr w ↦ subst (λ b. Sound (gives h (after_send c.told.harts h to) b c)) (sym (g.working w))
          (send_in c h to (suc c.told.sends) s e held (omega arith) (subst IsTold (g.working w) fits) (nat_lt (skipping h (to + 1)) c.told.harts) refl)
    ]

pub send_keeps : (to : ℕ) → KeepsIn (phase.Send to)
send_keeps to c h a after s lt e honest = tick_at c h (phase.Send to) a after e
    (call_keeps c h (phase.Send to) a after s e refl honest
    (λ held acts. send_done c h to after s e held acts.does.1 acts.fits))
