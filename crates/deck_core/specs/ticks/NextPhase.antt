-- The call that a phase makes, and the phase that follows: after the call's answer, after a look, after a load.
use Rattle.std.specs.Prelude.{◌≡◌, ℕ, ◌+◌, ◌-◌, ◌%◌, ◌==◌, ◌<◌, Bool, true, false, nat_lt, Option, Some, None, is_some, if◌then◌else◌}
use Rattle.mach_base.specs.Masks.{all_but, least, least_outside, mask_with, mask_without}
use Rattle.deck_core.specs.declared.plain.phase.Phase.{Phase}
use Rattle.deck_core.specs.declared.plain.phase.Phase.TheVariants as phase
use Rattle.deck_core.specs.declared.plain.phase.Then.{Then}
use Rattle.deck_core.specs.declared.plain.phase.Then.TheVariants as follow
use Rattle.deck_core.specs.declared.plain.phase.Kept.{Kept}
use Rattle.deck_core.specs.declared.plain.phase.Looks.{Looks}
use Rattle.deck_core.specs.declared.plain.act.Act.{Act}
use Rattle.deck_core.specs.declared.plain.act.Act.TheVariants as act
use Rattle.deck_core.specs.declared.plain.act.Answer.{Answer}
use Rattle.deck_core.specs.declared.plain.act.Answer.TheVariants as answer
use Rattle.deck_core.specs.declared.plain.act.Turned.{Turned}
use Rattle.deck_core.specs.declared.plain.act.Turned.TheVariants as turned
use Rattle.deck_core.specs.declared.plain.act.Entered.{Entered}
use Rattle.deck_core.specs.declared.plain.act.Entered.TheVariants as entered
use Rattle.deck_core.specs.declared.plain.act.Lined.{Lined}
use Rattle.deck_core.specs.declared.plain.act.Lined.TheVariants as lined
use Rattle.deck_core.specs.declared.plain.act.Passed.{Passed}
use Rattle.deck_core.specs.declared.plain.act.Passed.TheVariants as passed

-- ---- where a transaction leads

-- after the hart's step outside a session
abbrev pub after_step : Turned → Phase
after_step turned.Off = phase.Finished
after_step turned.Called = phase.Called
after_step turned.Trapped = phase.Wish
after_step _ = phase.Run

-- after the check of the master's trap: with none it goes back without a session
abbrev pub after_check : Bool → Phase
after_check trapped = if trapped then phase.Shut else phase.Drop

-- this hart, or the one after it where it is the master
abbrev pub skipping : ℕ → ℕ → ℕ
skipping m k = if k == m then k + 1 else k

-- the gathering begins
abbrev pub first_look : ℕ → Phase
first_look m = phase.Gather (record { rounds = 0; next = skipping m 0; gathered = 0 })

-- the harts that are neither m nor gathered are late
abbrev pub entering : ℕ → ℕ → ℕ → Phase
entering harts m gathered = phase.Enter (record { late = all_but harts (mask_with gathered m) }) false

-- after the gate is shut: the first other hart is called, if there is one
abbrev pub after_shut : ℕ → ℕ → Phase
after_shut harts m = if nat_lt (skipping m 0) harts then phase.Send (skipping m 0) else entering harts m 0

-- after a call: the next other hart is called, and after the last the gathering begins
abbrev pub after_send : ℕ → ℕ → ℕ → Phase
after_send harts m to = if nat_lt (skipping m (to + 1)) harts then phase.Send (skipping m (to + 1)) else first_look m

-- the gathered harts after a look at the next one
abbrev pub gathered_after : Looks → Bool → ℕ
gathered_after looks counts = if counts then mask_with looks.gathered looks.next else looks.gathered

-- a round of looks is over: the gathering ends where every other hart is gathered, or the rounds are used up
abbrev pub round_over : ℕ → ℕ → ℕ → Looks → ℕ → Option ℕ → Phase
round_over limit harts m looks gathered None = entering harts m gathered
round_over limit harts m looks gathered (Some k) =
    if nat_lt (looks.rounds + 1) limit then phase.Gather (record { rounds = looks.rounds + 1; next = k; gathered = gathered })
    else entering harts m gathered

-- the next look is at the least hart above that is neither m nor gathered; where there is none, the round is over
abbrev pub looks_on : ℕ → ℕ → ℕ → Looks → ℕ → Option ℕ → Phase
looks_on limit harts m looks gathered (Some k) = phase.Gather (record looks { next = k; gathered = gathered })
looks_on limit harts m looks gathered None =
    round_over limit harts m looks gathered (least_outside harts 0 (mask_with gathered m))

-- after a look
unfoldable pub after_look : ℕ → ℕ → ℕ → Looks → Bool → Phase
after_look limit harts m looks counts =
    let gathered = gathered_after looks counts in
    looks_on limit harts m looks gathered (least_outside (harts - (looks.next + 1)) (looks.next + 1) (mask_with gathered m))

-- the planted words are taken out, then lines are run
abbrev pub pulling : Kept → ℕ → Phase
pulling kept left = if left == 0 then phase.Lines kept else phase.Pull kept left

-- the places are planted again, then the session closes
abbrev pub planting : Kept → ℕ → Phase
planting kept left = if left == 0 then phase.Close kept else phase.Plant kept left

-- the phase after the answer of `enter`
abbrev pub after_enter : Kept → Entered → Phase
after_enter kept (entered.Inside planted) = pulling kept planted
after_enter kept entered.Off = phase.Close kept

-- the single-step pass begins, by planting the step word where there is one
abbrev pub passing : Kept → Option ℕ → Phase
passing kept (Some at) = phase.PlantStep kept at
passing kept None = phase.PassStep kept false

-- the phase after the answer of `line`
abbrev pub after_line : Kept → Lined → Phase
after_line kept lined.Stay = phase.Lines kept
after_line kept (lined.Pass at again) = passing kept at
after_line kept (lined.Free enabled) = planting kept enabled
after_line kept lined.Ended = phase.Close kept
after_line kept lined.Lost = phase.Close kept

-- what follows the instruction of a single-step pass
abbrev pub then_of : Passed → Then
then_of (passed.Free enabled) = follow.Plant enabled
then_of _ = follow.Enter

-- the phase after a single-step pass, once no step word stands
abbrev pub after_pull_step : Kept → Then → Phase
after_pull_step kept follow.Enter = phase.Enter kept true
after_pull_step kept (follow.Plant left) = planting kept left

-- the phase after the answer of `pass_step`, where a step word stands or none does
abbrev pub after_pass : Kept → Bool → Passed → Phase
after_pass kept planted r = if planted then phase.PullStep kept (then_of r) else after_pull_step kept (then_of r)

-- ---- the call that a phase makes, and the phase that follows its answer

-- hart h's one call in this phase; in a phase that makes none it is not used
abbrev pub act_of : ℕ → Phase → Act
act_of h phase.Own = act.Check (record { 0 = h })
act_of h (phase.Send to) = act.Send (record { 0 = to })
act_of h (phase.Enter kept reopens) = act.Enter (record { 0 = h }) kept.late
act_of h (phase.Pull kept left) = act.Pull (least left)
act_of h (phase.Lines kept) = act.Line (record { 0 = h })
act_of h (phase.PlantStep kept at) = act.PlantStep at
act_of h (phase.PassStep kept planted) = act.PassStep (record { 0 = h })
act_of h (phase.PullStep kept follows) = act.PullStep
act_of h (phase.Plant kept left) = act.Plant (least left)
act_of h (phase.Close kept) = act.Close (record { 0 = h })
act_of h _ = act.HartStep (record { 0 = h })

-- the answer of `hart_step`, Idle where it is another call's
abbrev pub step_answer : Answer → Turned
step_answer (answer.HartStep r) = r
step_answer _ = turned.Idle

-- whether it is an answer of `check` that tells a trap
abbrev pub check_answer : Answer → Bool
check_answer (answer.Check r) = is_some r
check_answer _ = false

-- the answer of `enter`, Off where it is another call's
abbrev pub enter_answer : Answer → Entered
enter_answer (answer.Enter r) = r
enter_answer _ = entered.Off

-- the answer of `line`, Ended where it is another call's
abbrev pub line_answer : Answer → Lined
line_answer (answer.Line r) = r
line_answer _ = lined.Ended

-- the answer of `pass_step`, Faulted where it is another call's
abbrev pub pass_answer : Answer → Passed
pass_answer (answer.PassStep r) = r
pass_answer _ = passed.Faulted

-- whether this phase is a transaction
abbrev pub is_transaction : Phase → Bool
is_transaction phase.Called = false
is_transaction (phase.Mark gate) = false
is_transaction (phase.Parked gate) = false
is_transaction (phase.Unmark gate) = false
is_transaction phase.Wish = false
is_transaction phase.Want = false
is_transaction phase.Shut = false
is_transaction (phase.Gather looks) = false
is_transaction phase.OpenGate = false
is_transaction phase.Drop = false
is_transaction phase.Free = false
is_transaction phase.Finished = false
is_transaction _ = true

-- the phase of hart h, of so many, after the answer
abbrev pub after_answer : ℕ → ℕ → Phase → Answer → Phase
after_answer harts h phase.Run a = after_step (step_answer a)
after_answer harts h phase.Own a = after_check (check_answer a)
after_answer harts h (phase.Send to) a = after_send harts h to
after_answer harts h (phase.Enter kept reopens) a = after_enter kept (enter_answer a)
after_answer harts h (phase.Pull kept left) a = pulling kept (mask_without left (least left))
after_answer harts h (phase.Lines kept) a = after_line kept (line_answer a)
after_answer harts h (phase.PlantStep kept at) a = phase.PassStep kept true
after_answer harts h (phase.PassStep kept planted) a = after_pass kept planted (pass_answer a)
after_answer harts h (phase.PullStep kept follows) a = after_pull_step kept follows
after_answer harts h (phase.Plant kept left) a = planting kept (mask_without left (least left))
after_answer harts h (phase.Close kept) a = phase.OpenGate
after_answer harts h p a = p

-- ---- what the functions of a phase ask for

-- what a phase keeps is in range for the phase after it: a hart that is called is one of the harts, and a place is left
abbrev pub CanGoOn : ℕ → Phase → Type 0
CanGoOn harts (phase.Send to) = to < harts
CanGoOn harts (phase.Pull kept left) = 0 < left
CanGoOn harts (phase.Plant kept left) = 0 < left
CanGoOn harts _ = Unit {0}

-- after a load of the gate's number by a hart that was called, or that is parked at another number
abbrev pub after_gate : Phase → ℕ → Phase
after_gate phase.Called gate = if gate % 2 == 0 then phase.Run else phase.Mark gate
after_gate (phase.Parked at) gate = if gate == at then phase.Parked at else phase.Unmark at
after_gate p gate = p

-- after the taking back of a hart's own word
abbrev pub after_clear : Phase → Phase
after_clear phase.Drop = phase.Free
after_clear _ = phase.Run

-- what the phase of hart h keeps is in range for each tick after it, whatever the bus answers: it calls and looks at
-- another one of the harts, rounds of looks are left, and places are left to be pulled or planted
abbrev pub GoesOn : ℕ → ℕ → ℕ → Phase → Type 0
GoesOn limit harts h (phase.Send to) = (to < harts) × ((to ≡ h) → ⊥)
GoesOn limit harts h (phase.Gather looks) = (looks.next < harts) × (looks.rounds < limit)
GoesOn limit harts h (phase.Pull kept left) = 0 < left
GoesOn limit harts h (phase.Plant kept left) = 0 < left
GoesOn limit harts h _ = Unit {0}
