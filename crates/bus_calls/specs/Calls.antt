-- What each call of the bus makes and answers.
use Rattle.std.specs.Prelude.{◌≡◌, ℕ, ◌==◌, ◌&&◌, ◌||◌, Bool, true, false, not, nat_lt, Option, Some, None, is_some, if◌then◌else◌}
use Rattle.mach_base.specs.declared.event.Hart.{Hart}
use Rattle.mach_base.specs.declared.event.Ending.TheVariants.{ScriptEnd, AllHalted, StepLimit}
use Rattle.mach_base.specs.declared.event.Entry.{Entry}
use Rattle.mach_base.specs.declared.event.Entry.TheVariants as entry
use Rattle.trap_ipi.specs.Interrupt.{is_takeable}
use Rattle.deck_core.specs.declared.plain.act.Act.{Act}
use Rattle.deck_core.specs.declared.plain.act.Act.TheVariants as act
use Rattle.deck_core.specs.declared.plain.act.Answer.{Answer}
use Rattle.deck_core.specs.declared.plain.act.Answer.TheVariants as answer
use Rattle.deck_core.specs.declared.plain.act.Turned.{Turned}
use Rattle.deck_core.specs.declared.plain.act.Turned.TheVariants as turned
use Rattle.deck_core.specs.declared.plain.act.Entered.TheVariants as entered
use Rattle.deck_core.specs.declared.plain.act.Lined.{Lined}
use Rattle.deck_core.specs.declared.plain.act.Lined.TheVariants as lined
use Rattle.deck_core.specs.declared.plain.act.Passed.{Passed}
use Rattle.deck_core.specs.declared.plain.act.Passed.TheVariants as passed
use Rattle.deck_core.specs.declared.plain.notes.Sitting.{Sitting}
use Rattle.deck_core.specs.declared.plain.notes.Stage.{Stage}
use Rattle.deck_core.specs.declared.plain.notes.Stage.TheVariants as stage
use Rattle.deck_core.specs.contract.Calls.{is_lost_line}
use Rattle.atom_mach.specs.State.{context_at}
use Rattle.atom_mach.specs.Traps.{trap}
use Rattle.hart_ctx.specs.Context.{IsUnmoved}
use Rattle.plant_mach.specs.Machine.{PlantedMachine, planted_of, enabled_of, is_held}
use Rattle.plant_mach.specs.Entries.{raw_fetched, is_ebreak, faults, step_address, has_line, effect}
use Rattle.plant_told.specs.Told.{Counted, mask_of}
use Rattle.plant_room.specs.Room.{counted_after}
use Rattle.bus_core.specs.declared.outer.Core.{Core}
use Rattle.bus_core.specs.Inner.{is_legal}
use Rattle.bus_core.specs.Core.{machine_of, entries_of, text_of, IsSame, Applied, SameOrigin as SameCoreOrigin}
use Rattle.bus_calls.specs.declared.bus.Stood.{Stood}
use Rattle.bus_calls.specs.declared.bus.CoreBus.{CoreBus}
use Rattle.bus_calls.specs.Bus.{counted_of, is_over}

-- the entry that a call makes, if any, and its answer
pub record Call : Type 0 where
  pub entry : Option Entry
  pub answer : Answer

-- the call that makes no entry, with this answer
abbrev pub quietly : Answer → Call
quietly a = record { entry = None; answer = a }

-- the call that makes this entry, with this answer
abbrev pub making : Entry → Answer → Call
making e a = record { entry = Some e; answer = a }

-- the call in which a hart makes this entry, if any, and answers so
abbrev pub turned_as : Option Entry → Turned → Call
turned_as e t = record { entry = e; answer = answer.HartStep t }

-- whether the hart has nothing to do: it is halted, it isn't hart 0 and no session was opened yet, or the limit of steps is
-- reached
abbrev pub is_idle : PlantedMachine → ℕ → Bool
is_idle p h =
    (context_at p.machine h).halted || ((not p.machine.opened && not (h == 0)) || not (nat_lt p.machine.steps p.machine.limit))

-- whether the hart's instruction traps: raw memory has an `ebreak` at its pc, or it faults
abbrev pub is_trapped : PlantedMachine → ℕ → Bool
is_trapped p h = is_ebreak (raw_fetched p h) || faults p h

-- What a hart does outside a session: the first of these that holds. The run ends where each hart is halted, or at the limit
-- of steps; the hart takes a call; it is idle; it is to open the first session; it takes its interrupt; it has a trap; it
-- executes its instruction.
abbrev pub turn_of : PlantedMachine → Hart → Call
turn_of p h =
    if is_legal p (entry.Off AllHalted) then making (entry.Off AllHalted) (answer.HartStep turned.Off)
    else (if is_legal p (entry.Off StepLimit) then making (entry.Off StepLimit) (answer.HartStep turned.Off)
    else (if is_legal p (entry.Take h) then making (entry.Take h) (answer.HartStep turned.Called)
    else (if is_idle p h.0 then quietly (answer.HartStep turned.Idle)
    else (if not p.machine.opened then quietly (answer.HartStep turned.Trapped)
    else (if is_takeable (context_at p.machine h.0) then making (entry.Intr h) (answer.HartStep turned.Took)
    else (if is_trapped p h.0 then quietly (answer.HartStep turned.Trapped)
    else making (entry.Step h) (answer.HartStep turned.Stepped)))))))

-- what a line answers, by the stage in which it left its session
abbrev pub lined_at : PlantedMachine → Hart → Stage → Lined
lined_at p m stage.Lines = lined.Stay
lined_at p m (stage.Pass again) = lined.Pass (step_address p.machine m.0) again
lined_at p m stage.Back = lined.Stay
lined_at p m stage.Leaving = lined.Free (enabled_of p)

-- what a line answers, by the session that it left, Stay without one
abbrev pub lined_in : PlantedMachine → Option Sitting → Lined
lined_in p None = lined.Stay
lined_in p (Some s) = lined_at p s.master s.stage

-- what the step of a pass answers, by the stage after it
abbrev pub passed_at : PlantedMachine → Stage → Passed
passed_at p stage.Back = passed.Back
passed_at p other = passed.Free (enabled_of p)

-- what the step of a pass answers, by the session after it
abbrev pub passed_in : PlantedMachine → Option Sitting → Passed
passed_in p None = passed.Free (enabled_of p)
passed_in p (Some s) = passed_at p s.stage

-- What a call makes and answers while the run goes on.
abbrev pub call_of : Act → PlantedMachine → Call
call_of (act.HartStep h) p = turn_of p h
call_of (act.Check h) p = quietly (answer.Check (trap p.machine h.0))
call_of (act.Send k) p = making (entry.Send k) answer.Send
call_of (act.Pull i) p = making (entry.Pull i) answer.Pull
call_of (act.PlantStep at) p = making (entry.PlantStep at) answer.PlantStep
call_of act.PullStep p = making entry.PullStep answer.PullStep
call_of (act.Plant i) p = making (entry.Plant i) answer.Plant
call_of (act.Close h) p = making (entry.Close h) answer.Close
call_of (act.Enter h late) p = making (entry.Open h late) (answer.Enter (entered.Inside (planted_of p)))
call_of (act.Line h) p =
    if has_line p.machine.unread then making (entry.Line h) (answer.Line (lined_in (effect p (entry.Line h)).next (effect p (entry.Line h)).next.session))
    else making (entry.Off ScriptEnd) (answer.Line lined.Ended)
call_of (act.PassStep h) p =
    if faults p h.0 then quietly (answer.PassStep passed.Faulted)
    else making (entry.Step h) (answer.PassStep (passed_in (effect p (entry.Step h)).next (effect p (entry.Step h)).next.session))

-- what a call answers once an ending stands or a line ran out of memory
abbrev pub answer_over : Act → Answer
answer_over (act.HartStep h) = answer.HartStep turned.Off
answer_over (act.Check h) = answer.Check None
answer_over (act.Send k) = answer.Send
answer_over (act.Pull i) = answer.Pull
answer_over (act.PlantStep at) = answer.PlantStep
answer_over act.PullStep = answer.PullStep
answer_over (act.Plant i) = answer.Plant
answer_over (act.Close h) = answer.Close
answer_over (act.Enter h late) = answer.Enter entered.Off
answer_over (act.Line h) = answer.Line lined.Ended
answer_over (act.PassStep h) = answer.PassStep (passed.Free 0)

-- whether the call answers nothing, and makes an entry of its own
abbrev pub is_silent : Act → Bool
is_silent (act.Send k) = true
is_silent (act.Pull i) = true
is_silent (act.PlantStep at) = true
is_silent act.PullStep = true
is_silent (act.Plant i) = true
is_silent (act.Close h) = true
is_silent other = false

-- whether the call closes a session
abbrev pub is_close : Act → Bool
is_close (act.Close h) = true
is_close other = false

-- the bus was left as it was; after the end a closing takes the mask away
pub record IsLeft (closes : Bool) (a b : CoreBus) : Type 0 where
  pub core : IsSame a.core b.core
  pub sends : b.sends ≡ a.sends
  pub stepped : b.stepped ≡ a.stepped
  pub released : b.released ≡ (closes || a.released)
  pub stood : b.stood ≡ (if closes then record a.stood { mask = 0 } else a.stood)

-- the entry was made, and the counts follow it
pub record IsMadeBy (e : Entry) (a b : CoreBus) : Type 0 where
  pub applied : Applied a.core e b.core
  pub counted : counted_of b ≡ counted_after (counted_of a) e

-- the call's entry was made, if it has one
abbrev pub IsMade : Option Entry → CoreBus → CoreBus → Type 0
IsMade None a b = IsLeft false a b
IsMade (Some e) a b = IsMadeBy e a b

-- a line ran out of memory: the core is lost with its journal as it was, and the calls sent, the mask and the lines read
-- are those that they were
pub record IsLost (a b : CoreBus) : Type 0 where
  pub lost : b.core.lost ≡ true
  pub journal : entries_of b.core ≡ entries_of a.core
  pub sends : b.sends ≡ a.sends
  pub stood : b.stood ≡ record { mask = mask_of a.released (machine_of a.core); lines = (machine_of a.core).machine.lines_read }

-- What a call does to the bus, and what it answers: after the end nothing but that a closing takes the mask away; before it
-- the entry and the answer of the call, unless a line ran out of memory.
pub record Does (a : Act) (before : CoreBus) (result : Answer) (after : CoreBus) : Type 0 where
  pub over : is_over before ≡ true → (result ≡ answer_over a) × IsLeft (is_close a) before after
  pub going : is_over before ≡ false → is_lost_line result ≡ false → (result ≡ (call_of a (machine_of before.core)).answer) × IsMade (call_of a (machine_of before.core)).entry before after
  pub lost : is_over before ≡ false → is_lost_line result ≡ true → IsLost before after

-- the harts that a session holds stand where they stood: their contexts are the same, but for pending interrupts and
-- reservations
abbrev pub HeldStay : CoreBus → CoreBus → Type 0
HeldStay a b = (k : ℕ) → is_held (machine_of a.core) k ≡ true → IsUnmoved (context_at (machine_of a.core).machine k) (context_at (machine_of b.core).machine k)

-- The second bus came of the first by calls: its core did.
abbrev pub SameOrigin : CoreBus → CoreBus → Type 0
SameOrigin a b = SameCoreOrigin a.core b.core
