-- What a phase keeps stays in range over each tick, whatever the bus answers.
use Rattle.std.proofs.Common.{◌≡◌, ℕ, ◌+◌, ◌-◌, ◌%◌, ◌<◌, ◌==◌, Bool, true, false, nat_lt, refl, sym, ◌∙◌, subst, inl, inr, arith, if◌then◌else◌, Option, Some, None}
use Rattle.std.proofs.Props.{props}
use Rattle.std.proofs.lemmas.Bool.{cases_Bool, eqb-false, ltb-true}
use Rattle.mach_base.specs.Masks.{mask_with, mask_without, least, least_outside}
use Rattle.deck_core.specs.ticks.NextPhase.{GoesOn, after_look, after_step, after_check, after_enter, after_line, after_pull_step, after_pass, then_of, passing, entering, first_look, skipping, looks_on, round_over, gathered_after, step_answer, check_answer, enter_answer, line_answer, pass_answer}
use Rattle.deck_core.specs.laws.Ranges.{AnswersGoOn, LooksGoOn, ShutGoesOn, GateGoesOn, CanGoOnNow}
use Rattle.deck_core.specs.declared.plain.phase.Phase.{Phase}
use Rattle.deck_core.specs.declared.plain.phase.Phase.TheVariants as phase
use Rattle.deck_core.specs.declared.plain.phase.Kept.{Kept}
use Rattle.deck_core.specs.declared.plain.phase.Looks.{Looks}
use Rattle.deck_core.specs.declared.plain.phase.Then.{Then}
use Rattle.deck_core.specs.declared.plain.phase.Then.TheVariants as follow
use Rattle.deck_core.specs.declared.plain.act.Turned.{Turned}
use Rattle.deck_core.specs.declared.plain.act.Turned.TheVariants as turned
use Rattle.deck_core.specs.declared.plain.act.Entered.{Entered}
use Rattle.deck_core.specs.declared.plain.act.Entered.TheVariants as entered
use Rattle.deck_core.specs.declared.plain.act.Lined.{Lined}
use Rattle.deck_core.specs.declared.plain.act.Lined.TheVariants as lined
use Rattle.deck_core.specs.declared.plain.act.Passed.{Passed}
use Rattle.deck_core.proofs.Elects.{skipping_is}
use Rattle.deck_core.proofs.Gathers.{least_outside_finds}

-- what is kept in range is a fact
pub goes_on_prop : (limit harts h : ℕ) (p : Phase) → IsProp (GoesOn limit harts h p)
goes_on_prop limit harts h (phase.Send to) = hlevel props
goes_on_prop limit harts h (phase.Gather looks) = hlevel props
goes_on_prop limit harts h (phase.Pull kept left) = hlevel props
goes_on_prop limit harts h (phase.Plant kept left) = hlevel props
goes_on_prop limit harts h _ = hlevel props

module _ (limit harts h : ℕ) where
  step_goes_on : (r : Turned) → GoesOn limit harts h (after_step r)
  step_goes_on turned.Off = tt
  step_goes_on turned.Called = tt
  step_goes_on turned.Idle = tt
  step_goes_on turned.Trapped = tt
  step_goes_on turned.Took = tt
  step_goes_on turned.Stepped = tt

  check_goes_on : (trapped : Bool) → GoesOn limit harts h (after_check trapped)
  check_goes_on true = tt
  check_goes_on false = tt

  -- the hart after another one isn't the master
  skipped_other : (k : ℕ) → skipping h k ≡ h → ⊥
  skipped_other k e = elim (skipping_is h k) [ inl a ↦ omega (arith, a.0, a.1, e) | inr a ↦ a.0 (sym a.1 ∙ e) ]

  call_goes_on : (k : ℕ) (more : Bool) (other : Phase) → nat_lt (skipping h k) harts ≡ more → (more ≡ false → GoesOn limit harts h other) → GoesOn limit harts h (if more then phase.Send (skipping h k) else other)
  call_goes_on k true other t o = (ltb-true (skipping h k) harts t, skipped_other k)
  call_goes_on k false other t o = o refl

  first_look_goes_on : (to : ℕ) → 0 < limit → h < harts → to < harts → (to ≡ h → ⊥) → GoesOn limit harts h (first_look h)
  first_look_goes_on to l lt below ne =
      (elim (skipping_is h 0) [ inl a ↦ omega (arith, a.0, a.1, lt, below, ne) | inr a ↦ omega (arith, a.0, a.1, lt, below, ne) ], l)

  pulling_goes_on : (kept : Kept) (left : ℕ) (none : Bool) → (left == 0) ≡ none → GoesOn limit harts h (if none then phase.Lines kept else phase.Pull kept left)
  pulling_goes_on kept left true t = tt
  pulling_goes_on kept left false t = let ne : left ≡ 0 → ⊥ = eqb-false left 0 t in omega (arith, ne)

  planting_goes_on : (kept : Kept) (left : ℕ) (none : Bool) → (left == 0) ≡ none → GoesOn limit harts h (if none then phase.Close kept else phase.Plant kept left)
  planting_goes_on kept left true t = tt
  planting_goes_on kept left false t = let ne : left ≡ 0 → ⊥ = eqb-false left 0 t in omega (arith, ne)

  enter_goes_on : (kept : Kept) (r : Entered) → GoesOn limit harts h (after_enter kept r)
  enter_goes_on kept (entered.Inside planted) = pulling_goes_on kept planted (planted == 0) refl
  enter_goes_on kept entered.Off = tt

  passing_goes_on : (kept : Kept) (at : Option ℕ) → GoesOn limit harts h (passing kept at)
  passing_goes_on kept None = tt
  passing_goes_on kept (Some at) = tt

  line_goes_on : (kept : Kept) (r : Lined) → GoesOn limit harts h (after_line kept r)
  line_goes_on kept lined.Stay = tt
  line_goes_on kept (lined.Pass at again) = passing_goes_on kept at
  line_goes_on kept (lined.Free enabled) = planting_goes_on kept enabled (enabled == 0) refl
  line_goes_on kept lined.Ended = tt
  line_goes_on kept lined.Lost = tt

  pull_step_goes_on : (kept : Kept) (follows : Then) → GoesOn limit harts h (after_pull_step kept follows)
  pull_step_goes_on kept follow.Enter = tt
  pull_step_goes_on kept (follow.Plant left) = planting_goes_on kept left (left == 0) refl

  pass_goes_on : (kept : Kept) (planted : Bool) (r : Passed) → GoesOn limit harts h (after_pass kept planted r)
  pass_goes_on kept true r = tt
  pass_goes_on kept false r = pull_step_goes_on kept (then_of r)

  round_goes_on : (looks : Looks) (gathered : ℕ) (found : Option ℕ) → least_outside harts 0 (mask_with gathered h) ≡ found → GoesOn limit harts h (round_over limit harts h looks gathered found)
  round_goes_on looks gathered None t = tt
  round_goes_on looks gathered (Some k) t =
      let f = least_outside_finds harts 0 (mask_with gathered h) k t in
      let go : Bool → Phase = λ b. if b then phase.Gather (record { rounds = looks.rounds + 1; next = k; gathered = gathered }) else entering harts h gathered in
      elim (cases_Bool (nat_lt (looks.rounds + 1) limit)) [
        | inl more ↦ subst (λ b. GoesOn limit harts h (go b)) (sym more) (omega (arith, f.0), ltb-true (looks.rounds + 1) limit more)
        | inr done ↦ subst (λ b. GoesOn limit harts h (go b)) (sym done) tt
      ]

  look_goes_on : (looks : Looks) (gathered : ℕ) → looks.next < harts → looks.rounds < limit → (found : Option ℕ) → least_outside (harts - (looks.next + 1)) (looks.next + 1) (mask_with gathered h) ≡ found → GoesOn limit harts h (looks_on limit harts h looks gathered found)
  look_goes_on looks gathered next rounds None t = round_goes_on looks gathered (least_outside harts 0 (mask_with gathered h)) refl
  look_goes_on looks gathered next rounds (Some k) t =
      let f = least_outside_finds (harts - (looks.next + 1)) (looks.next + 1) (mask_with gathered h) k t in
      (omega (arith, f.0, next), rounds)

pub answers_go_on : AnswersGoOn
answers_go_on limit harts h phase.Run a l lt g = step_goes_on limit harts h (step_answer a)
answers_go_on limit harts h phase.Own a l lt g = check_goes_on limit harts h (check_answer a)
answers_go_on limit harts h (phase.Send to) a l lt g =
    call_goes_on limit harts h (to + 1) (nat_lt (skipping h (to + 1)) harts) (first_look h) refl (λ e. first_look_goes_on limit harts h to l lt g.0 g.1)
answers_go_on limit harts h (phase.Enter kept reopens) a l lt g = enter_goes_on limit harts h kept (enter_answer a)
answers_go_on limit harts h (phase.Pull kept left) a l lt g = pulling_goes_on limit harts h kept (mask_without left (least left)) (mask_without left (least left) == 0) refl
answers_go_on limit harts h (phase.Lines kept) a l lt g = line_goes_on limit harts h kept (line_answer a)
answers_go_on limit harts h (phase.PlantStep kept at) a l lt g = tt
answers_go_on limit harts h (phase.PassStep kept planted) a l lt g = pass_goes_on limit harts h kept planted (pass_answer a)
answers_go_on limit harts h (phase.PullStep kept follows) a l lt g = pull_step_goes_on limit harts h kept follows
answers_go_on limit harts h (phase.Plant kept left) a l lt g = planting_goes_on limit harts h kept (mask_without left (least left)) (mask_without left (least left) == 0) refl
answers_go_on limit harts h (phase.Close kept) a l lt g = tt
answers_go_on limit harts h (phase.Gather looks) a l lt g = g
answers_go_on limit harts h _ a l lt g = tt

pub looks_go_on : LooksGoOn
unfolding after_look
looks_go_on limit harts h looks counts next rounds =
    look_goes_on limit harts h looks (gathered_after looks counts) next rounds
    (least_outside (harts - (looks.next + 1)) (looks.next + 1) (mask_with (gathered_after looks counts) h)) refl

pub shut_goes_on : ShutGoesOn
shut_goes_on limit harts h = call_goes_on limit harts h 0 (nat_lt (skipping h 0) harts) (entering harts h 0) refl (λ e. tt)

gate_even : (limit harts h gate : ℕ) (even : Bool) → GoesOn limit harts h (if even then phase.Run else phase.Mark gate)
gate_even limit harts h gate true = tt
gate_even limit harts h gate false = tt

gate_same : (limit harts h at : ℕ) (same : Bool) → GoesOn limit harts h (if same then phase.Parked at else phase.Unmark at)
gate_same limit harts h at true = tt
gate_same limit harts h at false = tt

pub gate_goes_on : GateGoesOn
gate_goes_on limit harts h gate phase.Called g = gate_even limit harts h gate (gate % 2 == 0)
gate_goes_on limit harts h gate (phase.Parked at) g = gate_same limit harts h at (gate == at)
gate_goes_on limit harts h gate (phase.Send to) g = g
gate_goes_on limit harts h gate (phase.Gather looks) g = g
gate_goes_on limit harts h gate (phase.Pull kept left) g = g
gate_goes_on limit harts h gate (phase.Plant kept left) g = g
gate_goes_on limit harts h gate _ g = tt

pub can_go_on_now : CanGoOnNow
can_go_on_now limit harts h (phase.Send to) g = g.0
can_go_on_now limit harts h (phase.Pull kept left) g = g
can_go_on_now limit harts h (phase.Plant kept left) g = g
can_go_on_now limit harts h _ g = tt
