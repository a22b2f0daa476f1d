-- Facts on seats and phases.
use Rattle.std.proofs.Common.{◌≡◌, ℕ, ◌+◌, ◌-◌, ◌%◌, ◌==◌, Bool, true, false, nat_lt, Option, Some, None, is_some, refl, sym, ◌∙◌, ap, subst, if◌then◌else◌}
use Rattle.std.proofs.lemmas.Bool.{both_ways, cond-true, cond-false}
use Rattle.mach_base.specs.Masks.{mask_with, mask_without, least, least_outside}
use Rattle.deck_core.specs.ticks.Configuration.{Configuration}
use Rattle.deck_core.specs.ticks.Phases.{holds, is_finished}
use Rattle.deck_core.specs.ticks.NextPhase.{is_transaction, act_of, after_answer, after_step, after_check, after_send, after_shut, after_look, after_enter, after_line, after_pull_step, after_pass, after_gate, then_of, passing, entering, first_look, skipping, looks_on, round_over, gathered_after, step_answer, check_answer, enter_answer, line_answer, pass_answer}
use Rattle.deck_core.specs.decks.Seat.{is_peek, is_take, seen_at, is_answer_of}
use Rattle.deck_core.specs.declared.plain.phase.Phase.{Phase}
use Rattle.deck_core.specs.declared.plain.phase.Phase.TheVariants as phase
use Rattle.deck_core.specs.declared.plain.phase.Place.{Place}
use Rattle.deck_core.specs.declared.plain.phase.Place.TheVariants as place
use Rattle.deck_core.specs.declared.plain.phase.Looks.{Looks}
use Rattle.deck_core.specs.declared.plain.phase.Kept.{Kept}
use Rattle.deck_core.specs.declared.plain.phase.Then.{Then}
use Rattle.deck_core.specs.declared.plain.phase.Then.TheVariants as follow
use Rattle.deck_core.specs.declared.plain.act.Act.{Act}
use Rattle.deck_core.specs.declared.plain.act.Act.TheVariants as act
use Rattle.deck_core.specs.declared.plain.act.Answer.{Answer}
use Rattle.deck_core.specs.declared.plain.act.Answer.TheVariants as answer
use Rattle.deck_core.specs.declared.plain.act.Turned.{Turned}
use Rattle.deck_core.specs.declared.plain.act.Turned.TheVariants as turned
use Rattle.deck_core.specs.declared.plain.act.Entered.{Entered}
use Rattle.deck_core.specs.declared.plain.act.Entered.TheVariants as entered
use Rattle.deck_core.specs.declared.plain.act.Lined.{Lined}
use Rattle.deck_core.specs.declared.plain.act.Lined.TheVariants as lined
use Rattle.deck_core.specs.declared.plain.act.Passed.{Passed}
use Rattle.hart_prog.specs.Progress.{answered, is_done, word_progress, found_or_waits}

-- ---- places

pub peek_is : (at : Place) → is_peek at ≡ true → at ≡ place.Peek
peek_is place.Peek t = refl
peek_is (place.Take seen) t = absurd (both_ways false refl t)
peek_is place.Give t = absurd (both_ways false refl t)

pub take_is : (at : Place) → is_take at ≡ true → at ≡ place.Take (seen_at at)
take_is (place.Take seen) t = refl
take_is place.Peek t = absurd (both_ways false refl t)
take_is place.Give t = absurd (both_ways false refl t)

pub give_is : (at : Place) → holds at ≡ true → at ≡ place.Give
give_is place.Give t = refl
give_is (place.Take seen) t = absurd (both_ways false refl t)
give_is place.Peek t = absurd (both_ways false refl t)

-- ---- phases that aren't Finished

pub transaction_unfinished : (p : Phase) → is_transaction p ≡ true → is_finished p ≡ false
transaction_unfinished phase.Finished t = absurd (both_ways false refl t)
transaction_unfinished _ t = refl

either_unfinished : (p q : Phase) (b : Bool) → is_finished p ≡ false → is_finished q ≡ false → is_finished (if b then p else q) ≡ false
either_unfinished p q true e f = e
either_unfinished p q false e f = f

pub gate_unfinished : (gate : ℕ) (p : Phase) → is_finished p ≡ false → is_finished (after_gate p gate) ≡ false
gate_unfinished gate phase.Called e = either_unfinished phase.Run (phase.Mark gate) (gate % 2 == 0) refl refl
gate_unfinished gate (phase.Parked at) e = either_unfinished (phase.Parked at) (phase.Unmark at) (gate == at) refl refl
gate_unfinished gate _ e = e

pub shut_unfinished : (harts h : ℕ) → is_finished (after_shut harts h) ≡ false
shut_unfinished harts h = either_unfinished (phase.Send (skipping h 0)) (entering harts h 0) (nat_lt (skipping h 0) harts) refl refl

module _ (limit harts h : ℕ) (looks : Looks) (gathered : ℕ) where
  round_unfinished : (found : Option ℕ) → is_finished (round_over limit harts h looks gathered found) ≡ false
  round_unfinished None = refl
  round_unfinished (Some k) =
      either_unfinished (phase.Gather (record { rounds = looks.rounds + 1; next = k; gathered = gathered })) (entering harts h gathered) (nat_lt (looks.rounds + 1) limit) refl refl

  look_unfinished_at : (found : Option ℕ) → is_finished (looks_on limit harts h looks gathered found) ≡ false
  look_unfinished_at (Some k) = refl
  look_unfinished_at None = round_unfinished (least_outside harts 0 (mask_with gathered h))

pub look_unfinished : (limit harts h : ℕ) (looks : Looks) (counts : Bool) → is_finished (after_look limit harts h looks counts) ≡ false
unfolding after_look
look_unfinished limit harts h looks counts =
    look_unfinished_at limit harts h looks (gathered_after looks counts)
    (least_outside (harts - (looks.next + 1)) (looks.next + 1) (mask_with (gathered_after looks counts) h))

module _ (kept : Kept) where
  pulling_unfinished : (left : ℕ) → is_finished (if left == 0 then phase.Lines kept else phase.Pull kept left) ≡ false
  pulling_unfinished left = either_unfinished (phase.Lines kept) (phase.Pull kept left) (left == 0) refl refl

  planting_unfinished : (left : ℕ) → is_finished (if left == 0 then phase.Close kept else phase.Plant kept left) ≡ false
  planting_unfinished left = either_unfinished (phase.Close kept) (phase.Plant kept left) (left == 0) refl refl

  enter_unfinished : (r : Entered) → is_finished (after_enter kept r) ≡ false
  enter_unfinished (entered.Inside planted) = pulling_unfinished planted
  enter_unfinished entered.Off = refl

  passing_unfinished : (at : Option ℕ) → is_finished (passing kept at) ≡ false
  passing_unfinished None = refl
  passing_unfinished (Some at) = refl

  line_unfinished : (r : Lined) → is_finished (after_line kept r) ≡ false
  line_unfinished lined.Stay = refl
  line_unfinished (lined.Pass at again) = passing_unfinished at
  line_unfinished (lined.Free enabled) = planting_unfinished enabled
  line_unfinished lined.Ended = refl
  line_unfinished lined.Lost = refl

  pull_step_unfinished : (follows : Then) → is_finished (after_pull_step kept follows) ≡ false
  pull_step_unfinished follow.Enter = refl
  pull_step_unfinished (follow.Plant left) = planting_unfinished left

  pass_unfinished : (planted : Bool) (r : Passed) → is_finished (after_pass kept planted r) ≡ false
  pass_unfinished true r = refl
  pass_unfinished false r = pull_step_unfinished (then_of r)

-- ---- a call finishes the hart exactly where it answers Off

abbrev pub is_step : Act → Bool
is_step (act.HartStep h) = true
is_step _ = false

quiet_answer : (x : Act) (a : Answer) → is_step x ≡ false → is_answer_of x a ≡ true → is_done (answered a) ≡ false
quiet_answer (act.HartStep h) a n e = absurd (both_ways true n refl)
quiet_answer (act.Check h) (answer.HartStep r) n e = absurd (both_ways false refl e)
quiet_answer (act.Send h) (answer.HartStep r) n e = absurd (both_ways false refl e)
quiet_answer (act.Pull i) (answer.HartStep r) n e = absurd (both_ways false refl e)
quiet_answer (act.PlantStep at) (answer.HartStep r) n e = absurd (both_ways false refl e)
quiet_answer act.PullStep (answer.HartStep r) n e = absurd (both_ways false refl e)
quiet_answer (act.Plant i) (answer.HartStep r) n e = absurd (both_ways false refl e)
quiet_answer (act.Close h) (answer.HartStep r) n e = absurd (both_ways false refl e)
quiet_answer (act.Enter h late) (answer.HartStep r) n e = absurd (both_ways false refl e)
quiet_answer (act.Line h) (answer.HartStep r) n e = absurd (both_ways false refl e)
quiet_answer (act.PassStep h) (answer.HartStep r) n e = absurd (both_ways false refl e)
quiet_answer x (answer.Check r) n e = refl
quiet_answer x answer.Send n e = refl
quiet_answer x answer.Pull n e = refl
quiet_answer x answer.PlantStep n e = refl
quiet_answer x answer.PullStep n e = refl
quiet_answer x answer.Plant n e = refl
quiet_answer x answer.Close n e = refl
quiet_answer x (answer.Enter r) n e = refl
quiet_answer x (answer.Line r) n e = refl
quiet_answer x (answer.PassStep r) n e = refl

step_done : (r : Turned) → is_done (answered (answer.HartStep r)) ≡ is_finished (after_step r)
step_done turned.Off = refl
step_done turned.Called = refl
step_done turned.Idle = refl
step_done turned.Trapped = refl
step_done turned.Took = refl
step_done turned.Stepped = refl

run_done : (h : ℕ) (a : Answer) → is_answer_of (act.HartStep (record { 0 = h })) a ≡ true → is_done (answered a) ≡ is_finished (after_step (step_answer a))
run_done h (answer.HartStep r) e = step_done r
run_done h _ e = absurd (both_ways false refl e)

pub give_done : (harts h : ℕ) (p : Phase) (a : Answer) → is_transaction p ≡ true → is_answer_of (act_of h p) a ≡ true → is_done (answered a) ≡ is_finished (after_answer harts h p a)
give_done harts h phase.Run a t e = run_done h a e
give_done harts h phase.Own a t e =
    quiet_answer (act_of h phase.Own) a refl e ∙ sym (either_unfinished phase.Shut phase.Drop (check_answer a) refl refl)
give_done harts h (phase.Send to) a t e =
    quiet_answer (act_of h (phase.Send to)) a refl e ∙ sym (either_unfinished (phase.Send (skipping h (to + 1))) (first_look h) (nat_lt (skipping h (to + 1)) harts) refl refl)
give_done harts h (phase.Enter kept reopens) a t e = quiet_answer (act_of h (phase.Enter kept reopens)) a refl e ∙ sym (enter_unfinished kept (enter_answer a))
give_done harts h (phase.Pull kept left) a t e = quiet_answer (act_of h (phase.Pull kept left)) a refl e ∙ sym (pulling_unfinished kept (mask_without left (least left)))
give_done harts h (phase.Lines kept) a t e = quiet_answer (act_of h (phase.Lines kept)) a refl e ∙ sym (line_unfinished kept (line_answer a))
give_done harts h (phase.PlantStep kept at) a t e = quiet_answer (act_of h (phase.PlantStep kept at)) a refl e
give_done harts h (phase.PassStep kept planted) a t e = quiet_answer (act_of h (phase.PassStep kept planted)) a refl e ∙ sym (pass_unfinished kept planted (pass_answer a))
give_done harts h (phase.PullStep kept follows) a t e = quiet_answer (act_of h (phase.PullStep kept follows)) a refl e ∙ sym (pull_step_unfinished kept follows)
give_done harts h (phase.Plant kept left) a t e = quiet_answer (act_of h (phase.Plant kept left)) a refl e ∙ sym (planting_unfinished kept (mask_without left (least left)))
give_done harts h (phase.Close kept) a t e = quiet_answer (act_of h (phase.Close kept)) a refl e
give_done harts h _ a t e = absurd (both_ways false refl t)

either_goes_on : (b : Bool) → is_done (found_or_waits b) ≡ false
either_goes_on true = refl
either_goes_on false = refl

pub word_undone : (p : Phase) (found : Bool) → is_finished p ≡ false → is_done (word_progress p found) ≡ false
word_undone phase.Want found e = either_goes_on found
word_undone (phase.Parked at) found e = either_goes_on found
word_undone (phase.Gather looks) found e = either_goes_on found
word_undone phase.Finished found e = absurd (both_ways true e refl)
word_undone _ found e = refl
