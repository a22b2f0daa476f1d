-- A hart is late only where its master's looks since the shutting of the gate missed it in each of the rounds.
use Rattle.std.proofs.Common.{◌≡◌, ℕ, suc, zero, ◌+◌, ◌-◌, ◌%◌, ◌^◌, ◌<◌, ◌≤◌, ◌==◌, ◌&&◌, Bool, true, false, not, nat_lt, List, [], ◌∷◌, Option, Some, None, refl, sym, ◌∙◌, ap, subst, inl, inr, arith, if◌then◌else◌}
use Rattle.std.proofs.lemmas.Bool.{cases_eq, cases_lt, cases_Bool, eq-eqb, ne_eqb, lt-ltb, le-ltb, both_ways, cond-true, cond-false, not-true}
use Rattle.std.proofs.lemmas.Nat.{pow_pos}
use Rattle.mach_base.specs.Masks.{has_bit, mask_with, mask_without, all_but, least, least_outside}
use Rattle.mach_base.proofs.Bits.{has_bit-zero, has_bit-with_same, has_bit-with_other, has_bit-all_but_inside, has_bit-all_but_outside, mask_with-lt}
use Rattle.deck_core.specs.ticks.Configuration.{Configuration, opening}
use Rattle.deck_core.specs.ticks.Phases.{holds, late_of}
use Rattle.deck_core.specs.ticks.NextPhase.{after_answer, after_step, after_check, after_shut, after_send, after_look, after_enter, after_line, after_pull_step, after_pass, then_of, passing, entering, first_look, skipping, looks_on, round_over, gathered_after, step_answer, check_answer, enter_answer, line_answer, pass_answer}
use Rattle.deck_core.specs.ticks.Tick.{Ticks, TicksAll, makes_call, mark_counts}
use Rattle.deck_core.specs.ticks.Looks.{Look, looks_with, looks_over, missed, found, WasMissed}
use Rattle.deck_core.specs.Invariant.{Sound, LooksFit}
use Rattle.deck_core.specs.laws.Runs.{LateWereMissed}
use Rattle.deck_core.specs.declared.plain.phase.Phase.{Phase}
use Rattle.deck_core.specs.declared.plain.phase.Phase.TheVariants as phase
use Rattle.deck_core.specs.declared.plain.phase.Kept.{Kept}
use Rattle.deck_core.specs.declared.plain.phase.Looks.{Looks}
use Rattle.deck_core.specs.declared.plain.phase.Then.{Then}
use Rattle.deck_core.specs.declared.plain.phase.Then.TheVariants as follow
use Rattle.deck_core.specs.declared.plain.act.Turned.{Turned}
use Rattle.deck_core.specs.declared.plain.act.Turned.TheVariants as turned
use Rattle.deck_core.specs.declared.plain.act.Entered.{Entered}
use Rattle.deck_core.specs.declared.plain.act.Entered.TheVariants as entered
use Rattle.deck_core.specs.declared.plain.act.Lined.{Lined}
use Rattle.deck_core.specs.declared.plain.act.Lined.TheVariants as lined
use Rattle.deck_core.specs.declared.plain.act.Passed.{Passed}
use Rattle.deck_core.specs.declared.plain.act.Answer.{Answer}
use Rattle.deck_core.proofs.Frame.{mine}
use Rattle.deck_core.proofs.Elects.{skipping_is}
use Rattle.deck_core.proofs.Flats.{acts_harts}
use Rattle.deck_core.proofs.Opening.{opening_is_sound}
use Rattle.deck_core.proofs.EveryTick.{every_tick_keeps}
use Rattle.deck_core.proofs.Steps.{tick_moves, phase_next}
use Rattle.deck_core.proofs.GoneTrap.{others_stay, own_next}

-- ---- the search for the next hart

-- all from the beginning of a search up to what it finds are in the mask
pub before_found : (count from mask n k : ℕ) → least_outside count from mask ≡ Some n → from ≤ k → k < n → has_bit mask k ≡ true
before_found zero from mask n k e low high = absurd (cc)
before_found (suc count) from mask n k e low high =
    let rest : Option ℕ = least_outside count (from + 1) mask in
    elim (cases_Bool (has_bit mask from)) [
      | inl t ↦
          elim (cases_eq k from) [
            | inl same ↦ subst (λ j. has_bit mask j ≡ true) (sym same) t
            | inr ne ↦ before_found count (from + 1) mask n k (sym (cond-true (has_bit mask from) rest (Some from) t) ∙ e) (omega (arith, ne, low)) high
          ]
      | inr t ↦
          let same : Some from ≡ Some n = sym (cond-false (has_bit mask from) rest (Some from) t) ∙ e in
          let eq : from ≡ n = cc in
          absurd (omega (arith, eq, low, high))
    ]

-- what a search finds isn't before its beginning
pub found_at_least : (count from mask n : ℕ) → least_outside count from mask ≡ Some n → from ≤ n
found_at_least zero from mask n e = absurd (cc)
found_at_least (suc count) from mask n e =
    let rest : Option ℕ = least_outside count (from + 1) mask in
    elim (cases_Bool (has_bit mask from)) [
      | inl t ↦ omega (arith, found_at_least count (from + 1) mask n (sym (cond-true (has_bit mask from) rest (Some from) t) ∙ e))
      | inr t ↦
          let same : Some from ≡ Some n = sym (cond-false (has_bit mask from) rest (Some from) t) ∙ e in
          let eq : from ≡ n = cc in
          omega (arith, eq)
    ]

-- all are in the mask where a search finds none
pub none_found : (count from mask k : ℕ) → least_outside count from mask ≡ None → from ≤ k → k < from + count → has_bit mask k ≡ true
none_found zero from mask k e low high = absurd (omega (arith, low, high))
none_found (suc count) from mask k e low high =
    let rest : Option ℕ = least_outside count (from + 1) mask in
    elim (cases_Bool (has_bit mask from)) [
      | inl t ↦
          elim (cases_eq k from) [
            | inl same ↦ subst (λ j. has_bit mask j ≡ true) (sym same) t
            | inr ne ↦ none_found count (from + 1) mask k (sym (cond-true (has_bit mask from) rest (Some from) t) ∙ e) (omega (arith, ne, low)) (omega (arith, high))
          ]
      | inr t ↦
          let same : Some from ≡ None = sym (cond-false (has_bit mask from) rest (Some from) t) ∙ e in
          absurd (cc)
    ]

-- a late hart is one of the harts, and was in no mask
pub late_outside : (harts mask k : ℕ) → mask < 2 ^ harts → has_bit (all_but harts mask) k ≡ true → (k < harts) × (has_bit mask k ≡ false)
late_outside harts mask k small e =
    elim (cases_lt k harts) [
      | inl lt ↦ (lt, not-true (has_bit mask k) (sym (has_bit-all_but_inside harts mask k lt) ∙ e))
      | inr le ↦ absurd (both_ways (has_bit (all_but harts mask) k) (has_bit-all_but_outside harts mask k small le) e)
    ]

-- ---- one look

pub one_more_missed : (times k : ℕ) (looks : List Look) (at : ℕ) → k ≡ at → WasMissed times k looks → WasMissed (suc times) k (record { at = at; counted = false } ∷ looks)
one_more_missed times k looks at e w =
    let t : (at == k) ≡ true = eq-eqb at k (sym e) in
    record {
      each = ap (λ b. if b && not false then suc (missed k looks) else missed k looks) t ∙ ap suc w.each;
      never = ap (λ b. if b && false then suc (found k looks) else found k looks) t ∙ w.never;
    }

pub another_looked_at : (times k : ℕ) (looks : List Look) (look : Look) → (k ≡ look.at → ⊥) → WasMissed times k looks → WasMissed times k (look ∷ looks)
another_looked_at times k looks look ne w =
    let t : (look.at == k) ≡ false = ne_eqb look.at k (λ x. ne (sym x)) in
    record {
      each = ap (λ b. if b && not look.counted then suc (missed k looks) else missed k looks) t ∙ w.each;
      never = ap (λ b. if b && look.counted then suc (found k looks) else found k looks) t ∙ w.never;
    }

-- ---- what the looks so far say, by the master's phase

-- how often a hart was looked at, before its turn in this round and after it
abbrev pub looked_at : ℕ → ℕ → ℕ → ℕ
looked_at rounds next k = rounds + (if nat_lt k next then 1 else 0)

abbrev pub is_looking : Phase → Bool
is_looking (phase.Send to) = true
is_looking (phase.Gather l) = true
is_looking _ = false

-- none before the gathering; in it each other hart that isn't gathered was missed once in each round, up to the next;
-- after it each late hart was missed in all
abbrev pub LooksTold : ℕ → ℕ → ℕ → Phase → List Look → Type 0
LooksTold limit harts m (phase.Send to) looks = looks ≡ []
LooksTold limit harts m (phase.Gather l) looks =
    (k : ℕ) → k < harts → (k ≡ m → ⊥) → has_bit l.gathered k ≡ false → WasMissed (looked_at l.rounds l.next k) k looks
LooksTold limit harts m p looks = (k : ℕ) → has_bit (late_of p) k ≡ true → WasMissed limit k looks

looked_before : (rounds next k : ℕ) → k < next → looked_at rounds next k ≡ rounds + 1
looked_before rounds next k lt = ap (λ b. rounds + (if b then 1 else 0)) (lt-ltb k next lt)

looked_later : (rounds next k : ℕ) → next ≤ k → looked_at rounds next k ≡ rounds
looked_later rounds next k le = ap (λ b. rounds + (if b then 1 else 0)) (le-ltb k next le) ∙ omega arith

-- a phase whose late harts are among these
pub record Follows (was : ℕ) (p : Phase) : Type 0 where
  pub quiet : is_looking p ≡ false
  pub late : (k : ℕ) → has_bit (late_of p) k ≡ true → has_bit was k ≡ true

no_late : (was k : ℕ) → has_bit 0 k ≡ true → has_bit was k ≡ true
no_late was k e = absurd (both_ways (has_bit 0 k) (has_bit-zero k) e)

module _ (was : ℕ) where
  step_follows : (r : Turned) → Follows was (after_step r)
  step_follows turned.Off = record { quiet = refl; late = no_late was }
  step_follows turned.Called = record { quiet = refl; late = no_late was }
  step_follows turned.Idle = record { quiet = refl; late = no_late was }
  step_follows turned.Trapped = record { quiet = refl; late = no_late was }
  step_follows turned.Took = record { quiet = refl; late = no_late was }
  step_follows turned.Stepped = record { quiet = refl; late = no_late was }

  check_follows : (trapped : Bool) → Follows was (after_check trapped)
  check_follows true = record { quiet = refl; late = no_late was }
  check_follows false = record { quiet = refl; late = no_late was }

either_follows : (was : ℕ) (p q : Phase) (b : Bool) → Follows was p → Follows was q → Follows was (if b then p else q)
either_follows was p q true f g = f
either_follows was p q false f g = g

module _ (kept : Kept) where
  pulling_follows : (left : ℕ) → Follows kept.late (if left == 0 then phase.Lines kept else phase.Pull kept left)
  pulling_follows left = either_follows kept.late (phase.Lines kept) (phase.Pull kept left) (left == 0) (record { quiet = refl; late = λ k e. e }) (record { quiet = refl; late = λ k e. e })

  planting_follows : (left : ℕ) → Follows kept.late (if left == 0 then phase.Close kept else phase.Plant kept left)
  planting_follows left = either_follows kept.late (phase.Close kept) (phase.Plant kept left) (left == 0) (record { quiet = refl; late = λ k e. e }) (record { quiet = refl; late = λ k e. e })

  enter_follows : (r : Entered) → Follows kept.late (after_enter kept r)
  enter_follows (entered.Inside planted) = pulling_follows planted
  enter_follows entered.Off = record { quiet = refl; late = λ k e. e }

  passing_follows : (at : Option ℕ) → Follows kept.late (passing kept at)
  passing_follows None = record { quiet = refl; late = λ k e. e }
  passing_follows (Some at) = record { quiet = refl; late = λ k e. e }

  line_follows : (r : Lined) → Follows kept.late (after_line kept r)
  line_follows lined.Stay = record { quiet = refl; late = λ k e. e }
  line_follows (lined.Pass at again) = passing_follows at
  line_follows (lined.Free enabled) = planting_follows enabled
  line_follows lined.Ended = record { quiet = refl; late = λ k e. e }
  line_follows lined.Lost = record { quiet = refl; late = λ k e. e }

  pull_step_follows : (follows : Then) → Follows kept.late (after_pull_step kept follows)
  pull_step_follows follow.Enter = record { quiet = refl; late = λ k e. e }
  pull_step_follows (follow.Plant left) = planting_follows left

  pass_follows : (planted : Bool) (r : Passed) → Follows kept.late (after_pass kept planted r)
  pass_follows true r = record { quiet = refl; late = λ k e. e }
  pass_follows false r = pull_step_follows (then_of r)

-- the phase after a call, but that after the sending of one
answer_follows : (harts h : ℕ) (p : Phase) (a : Answer) → is_looking p ≡ false → Follows (late_of p) (after_answer harts h p a)
answer_follows harts h phase.Run a n = step_follows 0 (step_answer a)
answer_follows harts h phase.Own a n = check_follows 0 (check_answer a)
answer_follows harts h (phase.Send to) a n = absurd (both_ways true n refl)
answer_follows harts h (phase.Gather l) a n = absurd (both_ways true n refl)
answer_follows harts h (phase.Enter kept reopens) a n = enter_follows kept (enter_answer a)
answer_follows harts h (phase.Pull kept left) a n = pulling_follows kept (mask_without left (least left))
answer_follows harts h (phase.Lines kept) a n = line_follows kept (line_answer a)
answer_follows harts h (phase.PlantStep kept at) a n = record { quiet = refl; late = λ k e. e }
answer_follows harts h (phase.PassStep kept planted) a n = pass_follows kept planted (pass_answer a)
answer_follows harts h (phase.PullStep kept follows) a n = pull_step_follows kept follows
answer_follows harts h (phase.Plant kept left) a n = planting_follows kept (mask_without left (least left))
answer_follows harts h (phase.Close kept) a n = record { quiet = refl; late = no_late kept.late }
answer_follows harts h _ a n = record { quiet = refl; late = λ k e. e }

module _ (limit harts m : ℕ) where
  -- the looks tell the same of a phase that follows
  late_told : (p : Phase) (looks : List Look) → is_looking p ≡ false → LooksTold limit harts m p looks → (k : ℕ) → has_bit (late_of p) k ≡ true → WasMissed limit k looks
  late_told (phase.Send to) looks n t = absurd (both_ways true n refl)
  late_told (phase.Gather l) looks n t = absurd (both_ways true n refl)
  late_told _ looks n t = t

  told_late : (p : Phase) (looks : List Look) → is_looking p ≡ false → ((k : ℕ) → has_bit (late_of p) k ≡ true → WasMissed limit k looks) → LooksTold limit harts m p looks
  told_late (phase.Send to) looks n t = absurd (both_ways true n refl)
  told_late (phase.Gather l) looks n t = absurd (both_ways true n refl)
  told_late _ looks n t = t

  told_on : (p q : Phase) (looks : List Look) → is_looking p ≡ false → Follows (late_of p) q → LooksTold limit harts m p looks → LooksTold limit harts m q looks
  told_on p q looks n f t = told_late q looks f.quiet (λ k e. late_told p looks n t k (f.late k e))

  either_told : (p q : Phase) (looks : List Look) (b : Bool) → LooksTold limit harts m p looks → LooksTold limit harts m q looks → LooksTold limit harts m (if b then p else q) looks
  either_told p q looks true f g = f
  either_told p q looks false f g = g

  -- the sending of the calls
  begins : LooksTold limit harts m (first_look m) []
  begins k below ne out =
      let none : skipping m 0 ≤ k = elim (skipping_is m 0) [ inl a ↦ omega (arith, a.0, a.1, ne) | inr a ↦ omega (arith, a.1) ] in
      record { each = sym (looked_later 0 (skipping m 0) k none); never = refl }

  nobody_late : (k : ℕ) → m < harts → harts ≤ skipping m 0 → has_bit (late_of (entering harts m 0)) k ≡ true → ⊥
  nobody_late k below few e =
      let small : mask_with 0 m < 2 ^ harts = mask_with-lt harts 0 m (pow_pos harts) below in
      let o = late_outside harts (mask_with 0 m) k small e in
      let same : k ≡ m = elim (skipping_is m 0) [ inl a ↦ omega (arith, a.0, a.1, few, o.0) | inr a ↦ omega (arith, a.1, few, o.0) ] in
      both_ways (has_bit (mask_with 0 m) m) (subst (λ j. has_bit (mask_with 0 m) j ≡ false) same o.1) (has_bit-with_same 0 m)

  shut_told : m < harts → LooksTold limit harts m (after_shut harts m) []
  shut_told below =
      elim (cases_lt (skipping m 0) harts) [
        | inl lt ↦ subst (λ b. LooksTold limit harts m (if b then phase.Send (skipping m 0) else entering harts m 0) []) (sym (lt-ltb (skipping m 0) harts lt)) refl
        | inr le ↦ subst (λ b. LooksTold limit harts m (if b then phase.Send (skipping m 0) else entering harts m 0) []) (sym (le-ltb (skipping m 0) harts le))
            (λ k e. absurd (nobody_late k below le e))
      ]

  -- a look at the next hart, and where it leads
  module _ (l : Looks) (looks : List Look) (fits : LooksFit limit harts (suc m) l) (below : m < harts) (was : LooksTold limit harts m (phase.Gather l) looks) (seen : Bool) where
    abbrev now : List Look
    now = record { at = l.next; counted = seen } ∷ looks

    -- the mask outside which the next hart is searched
    abbrev mask : ℕ
    mask = mask_with (gathered_after l seen) m

    -- a hart other than the one that is looked at
    turn_over : (k : ℕ) → (k ≡ l.next → ⊥) → looked_at l.rounds l.next k ≡ looked_at l.rounds (l.next + 1) k
    turn_over k ne =
        elim (cases_lt k l.next) [
          | inl lt ↦ looked_before l.rounds l.next k lt ∙ sym (looked_before l.rounds (l.next + 1) k (omega (arith, lt)))
          | inr le ↦ looked_later l.rounds l.next k le ∙ sym (looked_later l.rounds (l.next + 1) k (omega (arith, le, ne)))
        ]

    -- a hart that isn't gathered was missed by this look too, where it was its turn
    missed_now : (b : Bool) → seen ≡ b → (k : ℕ) → k < harts → (k ≡ m → ⊥) → has_bit (gathered_after l b) k ≡ false → WasMissed (looked_at l.rounds (l.next + 1) k) k now
    missed_now true t k lt ne out =
        let other : k ≡ l.next → ⊥ = λ x. both_ways (has_bit (mask_with l.gathered l.next) l.next) (subst (λ j. has_bit (mask_with l.gathered l.next) j ≡ false) x out) (has_bit-with_same l.gathered l.next) in
        let before : WasMissed (looked_at l.rounds l.next k) k looks = was k lt ne (sym (has_bit-with_other l.gathered l.next k other) ∙ out) in
        subst (λ n. WasMissed n k now) (turn_over k other) (another_looked_at (looked_at l.rounds l.next k) k looks (record { at = l.next; counted = seen }) other before)
    missed_now false t k lt ne out =
        let before : WasMissed (looked_at l.rounds l.next k) k looks = was k lt ne out in
        elim (cases_eq k l.next) [
          | inl same ↦
              subst (λ b. WasMissed (looked_at l.rounds (l.next + 1) k) k (record { at = l.next; counted = b } ∷ looks)) (sym t)
              (subst (λ n. WasMissed n k (record { at = l.next; counted = false } ∷ looks))
              (ap suc (looked_later l.rounds l.next k (omega (arith, same))) ∙ (omega arith ∙ sym (looked_before l.rounds (l.next + 1) k (omega (arith, same)))))
              (one_more_missed (looked_at l.rounds l.next k) k looks l.next same before))
          | inr other ↦
              subst (λ n. WasMissed n k now) (turn_over k other) (another_looked_at (looked_at l.rounds l.next k) k looks (record { at = l.next; counted = seen }) other before)
        ]

    missed_here : (k : ℕ) → k < harts → (k ≡ m → ⊥) → has_bit (gathered_after l seen) k ≡ false → WasMissed (looked_at l.rounds (l.next + 1) k) k now
    missed_here = missed_now seen refl

    -- a hart that isn't in the mask is none of the gathered
    outside : (k : ℕ) → (k ≡ m → ⊥) → has_bit (gathered_after l seen) k ≡ false → has_bit mask k ≡ false
    outside k ne out = has_bit-with_other (gathered_after l seen) m k ne ∙ out

    -- the next look is in the same round
    same_round : (n : ℕ) → least_outside (harts - (l.next + 1)) (l.next + 1) mask ≡ Some n → LooksTold limit harts m (phase.Gather (record l { next = n; gathered = gathered_after l seen })) now
    same_round n t k lt ne out =
        let here : WasMissed (looked_at l.rounds (l.next + 1) k) k now = missed_here k lt ne out in
        elim (cases_lt k (l.next + 1)) [
          | inl early ↦ subst (λ x. WasMissed x k now) (looked_before l.rounds (l.next + 1) k early ∙ sym (looked_before l.rounds n k (omega (arith, early, found_at_least (harts - (l.next + 1)) (l.next + 1) mask n t)))) here
          | inr late ↦
              let past : n ≤ k = elim (cases_lt k n) [
                | inl lt2 ↦ absurd (both_ways (has_bit mask k) (outside k ne out) (before_found (harts - (l.next + 1)) (l.next + 1) mask n k t late lt2))
                | inr le ↦ le
              ] in
              subst (λ x. WasMissed x k now) (looked_later l.rounds (l.next + 1) k late ∙ sym (looked_later l.rounds n k past)) here
        ]

    -- the round is over
    round_done : least_outside (harts - (l.next + 1)) (l.next + 1) mask ≡ None → (k : ℕ) → k < harts → (k ≡ m → ⊥) → has_bit (gathered_after l seen) k ≡ false → WasMissed (l.rounds + 1) k now
    round_done t k lt ne out =
        let here : WasMissed (looked_at l.rounds (l.next + 1) k) k now = missed_here k lt ne out in
        elim (cases_lt k (l.next + 1)) [
          | inl early ↦ subst (λ x. WasMissed x k now) (looked_before l.rounds (l.next + 1) k early) here
          | inr late ↦ absurd (both_ways (has_bit mask k) (outside k ne out) (none_found (harts - (l.next + 1)) (l.next + 1) mask k t late (omega (arith, lt, late))))
        ]

    gathered_small : (b : Bool) → gathered_after l b < 2 ^ harts
    gathered_small true = mask_with-lt harts l.gathered l.next fits.gathered fits.next.below
    gathered_small false = fits.gathered

    -- the late harts, where the gathering ends
    late_is : (k : ℕ) → has_bit (late_of (entering harts m (gathered_after l seen))) k ≡ true → (k < harts) × ((k ≡ m → ⊥) × (has_bit (gathered_after l seen) k ≡ false))
    late_is k e =
        let o = late_outside harts mask k (mask_with-lt harts (gathered_after l seen) m (gathered_small seen) below) e in
        let ne : k ≡ m → ⊥ = λ x. both_ways (has_bit mask m) (subst (λ j. has_bit mask j ≡ false) x o.1) (has_bit-with_same (gathered_after l seen) m) in
        (o.0, (ne, sym (has_bit-with_other (gathered_after l seen) m k ne) ∙ o.1))

    ends : (p : Option ℕ) → least_outside (harts - (l.next + 1)) (l.next + 1) mask ≡ None → least_outside harts 0 mask ≡ p → LooksTold limit harts m (round_over limit harts m l (gathered_after l seen) p) now
    ends None t u = λ k e.
        let i = late_is k e in
        absurd (both_ways (has_bit mask k) (outside k i.1.0 i.1.1) (none_found harts 0 mask k u (omega arith) (omega (arith, i.0))))
    ends (Some n) t u =
        let go : Bool → Phase = λ b. if b then phase.Gather (record { rounds = l.rounds + 1; next = n; gathered = gathered_after l seen }) else entering harts m (gathered_after l seen) in
        elim (cases_lt (l.rounds + 1) limit) [
          | inl more ↦ subst (λ b. LooksTold limit harts m (go b) now) (sym (lt-ltb (l.rounds + 1) limit more))
              (λ k lt ne out.
              let past : n ≤ k = elim (cases_lt k n) [
                | inl lt2 ↦ absurd (both_ways (has_bit mask k) (outside k ne out) (before_found harts 0 mask n k u (omega arith) lt2))
                | inr le ↦ le
              ] in
              subst (λ x. WasMissed x k now) (sym (looked_later (l.rounds + 1) n k past)) (round_done t k lt ne out))
          | inr no_more ↦ subst (λ b. LooksTold limit harts m (go b) now) (sym (le-ltb (l.rounds + 1) limit no_more))
              (λ k e.
              let i = late_is k e in
              let all : l.rounds + 1 ≡ limit = omega (arith, no_more, fits.rounds) in
              subst (λ x. WasMissed x k now) all (round_done t k i.0 i.1.0 i.1.1))
        ]

    look_told : (p : Option ℕ) → least_outside (harts - (l.next + 1)) (l.next + 1) mask ≡ p → LooksTold limit harts m (looks_on limit harts m l (gathered_after l seen) p) now
    look_told None t = ends (least_outside harts 0 mask) t refl
    look_told (Some n) t = same_round n t

    pub looked_told : LooksTold limit harts m (after_look limit harts m l seen) now
    unfolding after_look
    looked_told = look_told (least_outside (harts - (l.next + 1)) (l.next + 1) mask) refl

-- ---- a tick of the master, and a run

pub own_looks : (c : Configuration) (m : ℕ) (a : Answer) (p : Phase) (looks : List Look) → Sound c → m < c.told.harts → c.phase m ≡ p → LooksTold c.limit c.told.harts m p looks → LooksTold c.limit c.told.harts m (phase_next m a c p) (looks_with p c looks)
own_looks c m a phase.Called looks s lt e t = either_told c.limit c.told.harts m phase.Run (phase.Mark c.gate) looks (c.gate % 2 == 0) t t
own_looks c m a (phase.Mark gate) looks s lt e t = t
own_looks c m a (phase.Parked at) looks s lt e t = either_told c.limit c.told.harts m (phase.Parked at) (phase.Unmark at) looks (c.gate == at) t t
own_looks c m a (phase.Unmark gate) looks s lt e t = t
own_looks c m a phase.Wish looks s lt e t = t
own_looks c m a phase.Want looks s lt e t = either_told c.limit c.told.harts m phase.Own phase.Want looks (c.master == 0) t t
own_looks c m a phase.Shut looks s lt e t = shut_told c.limit c.told.harts m lt
own_looks c m a (phase.Send to) looks s lt e t =
    either_told c.limit c.told.harts m (after_send c.told.harts m to) (phase.Send to) looks (holds (c.place m))
    (subst (LooksTold c.limit c.told.harts m (after_send c.told.harts m to)) (sym t)
    (either_told c.limit c.told.harts m (phase.Send (skipping m (to + 1))) (first_look m) [] (nat_lt (skipping m (to + 1)) c.told.harts) refl (begins c.limit c.told.harts m)))
    t
own_looks c m a (phase.Gather l) looks s lt e t =
    looked_told c.limit c.told.harts m l looks (mine c m (phase.Gather l) s e refl).lead.range lt t (mark_counts c l.next)
own_looks c m a phase.OpenGate looks s lt e t = t
own_looks c m a phase.Drop looks s lt e t = t
own_looks c m a phase.Free looks s lt e t = t
own_looks c m a phase.Finished looks s lt e t = t
own_looks c m a p looks s lt e t =
    either_told c.limit c.told.harts m (after_answer c.told.harts m p a) p looks (holds (c.place m))
    (told_on c.limit c.told.harts m p (after_answer c.told.harts m p a) looks refl (answer_follows c.told.harts m p a refl) t) t

-- the numbers that stay over a tick
pub limit_stays : (c next : Configuration) (h : ℕ) → Ticks h c next → next.limit ≡ c.limit
limit_stays c next h t = ap (λ n. n.limit) t.ticked ∙ (tick_moves c h t.answer t.after).1.limit

pub harts_stay : (c next : Configuration) (h : ℕ) → Ticks h c next → next.told.harts ≡ c.told.harts
harts_stay c next h t =
    let told : next.told ≡ (if makes_call h c then t.after else c.told) = ap (λ n. n.told) t.ticked ∙ (tick_moves c h t.answer t.after).1.tells in
    elim (cases_Bool (makes_call h c)) [
      | inl y ↦ ap (λ b. b.harts) (told ∙ cond-true (makes_call h c) t.after c.told y) ∙ acts_harts _ c.told t.after t.answer (t.honest y).does
      | inr n ↦ ap (λ b. b.harts) (told ∙ cond-false (makes_call h c) t.after c.told n)
    ]

pub tick_looks : (c next : Configuration) (m h : ℕ) (looks : List Look) → Sound c → h < c.told.harts → Ticks h c next → LooksTold c.limit c.told.harts m (c.phase m) looks → LooksTold c.limit c.told.harts m (next.phase m) (if h == m then looks_with (c.phase m) c looks else looks)
tick_looks c next m h looks s lt t was =
    let f : Bool → Type 0 = λ b. LooksTold c.limit c.told.harts m (next.phase m) (if b then looks_with (c.phase m) c looks else looks) in
    elim (cases_eq h m) [
      | inl same ↦
          let mine_t : Ticks m c next = subst (λ j. Ticks j c next) same t in
          subst f (sym (eq-eqb h m same))
          (subst (λ p. LooksTold c.limit c.told.harts m p (looks_with (c.phase m) c looks)) (sym (own_next c next m mine_t))
          (own_looks c m mine_t.answer (c.phase m) looks s (subst (λ j. j < c.told.harts) same lt) refl was))
      | inr ne ↦
          subst f (sym (ne_eqb h m ne))
          (subst (λ p. LooksTold c.limit c.told.harts m p looks) (sym (others_stay c next h m t (λ x. ne (sym x)))) was)
    ]

pub run_looks : (limit harts m : ℕ) (plan : List ℕ) (c last : Configuration) (run : TicksAll plan c last) (looks : List Look) → Sound c → c.limit ≡ limit → c.told.harts ≡ harts → LooksTold limit harts m (c.phase m) looks → LooksTold limit harts m (last.phase m) (looks_over m plan c last run looks)
run_looks limit harts m [] c last run looks s l n t = subst (λ x. LooksTold limit harts m (x.phase m) looks) (sym run) t
run_looks limit harts m (h ∷ plan) c last run looks s l n t =
    let next : Configuration = run.1.0 in
    let tick : Ticks h c next = run.1.1.0 in
    let now : List Look = if h == m then looks_with (c.phase m) c looks else looks in
    let was : LooksTold c.limit c.told.harts m (c.phase m) looks = subst (λ x. LooksTold x c.told.harts m (c.phase m) looks) (sym l) (subst (λ x. LooksTold limit x m (c.phase m) looks) (sym n) t) in
    let on : LooksTold c.limit c.told.harts m (next.phase m) now = tick_looks c next m h looks s run.0 tick was in
    run_looks limit harts m plan next last run.1.1.1 now (every_tick_keeps c h next s run.0 tick) (limit_stays c next h tick ∙ l) (harts_stay c next h tick ∙ n)
    (subst (λ x. LooksTold limit x m (next.phase m) now) n (subst (λ x. LooksTold x c.told.harts m (next.phase m) now) l on))

pub late_were_missed : LateWereMissed
late_were_missed limit b plan last run m k kept reopens some opens enters late =
    let told : LooksTold limit b.harts m (last.phase m) (looks_over m plan (opening limit b) last run []) =
    run_looks limit b.harts m plan (opening limit b) last run [] (opening_is_sound limit b some opens) refl refl (λ j e. absurd (both_ways (has_bit 0 j) (has_bit-zero j) e)) in
    (subst (λ p. LooksTold limit b.harts m p (looks_over m plan (opening limit b) last run [])) enters told) k late
