-- The steps of the atomic machine: where each is allowed, what it does and what it prints.
use Rattle.std.specs.Prelude.{ℕ, ◌^◌, ◌==◌, ◌&&◌, ◌||◌, Bool, true, false, not, List, [], ◌∷◌, ◌++◌, Option, Some, None, nat_lt, nat_le, is_none, if◌then◌else◌}
use Rattle.std.specs.Option.{unwrap_or}
use Rattle.std.specs.List.{list_all}
use Rattle.mach_base.specs.Texts.{newline}
use Rattle.mach_base.specs.Masks.{has_bit}
use Rattle.mach_base.specs.Machine.{Context, Machine}
use Rattle.mach_base.specs.declared.event.Hart.{Hart}
use Rattle.mach_base.specs.declared.event.Reason.{Reason}
use Rattle.mach_base.specs.declared.event.Ending.{Ending}
use Rattle.mach_base.specs.declared.event.Ending.TheVariants.{ScriptEnd, AllHalted, StepLimit, PlanEnd}
use Rattle.trap_ipi.specs.Interrupt.{is_takeable}
use Rattle.atom_mach.specs.declared.step.Mode.{Mode}
use Rattle.atom_mach.specs.declared.step.Mode.TheVariants.{Free, Hold, Pass, Back, Leave, Over}
use Rattle.atom_mach.specs.declared.step.AStep.{AStep}
use Rattle.atom_mach.specs.declared.step.AStep.TheVariants.{Instr, Intr, Session, Enter, Line, End, Off}
use Rattle.atom_mach.specs.State.{State, Done, hart_count, context_at}
use Rattle.atom_mach.specs.Traps.{fault_of, trap, late_trap, executed, console_text, interrupted}
use Rattle.atom_mach.specs.Modes.{runs, owes, mode_after, is_free}
use Rattle.atom_mach.specs.Session.{Cut, is_hart, opening_reason, session_opening, prompt_text, with_read, line_effect, session}

-- Instructions and interrupts.

-- the trap that keeps a hart from executing: beside a session breakpoints don't count
abbrev pub trap_in : Mode → Machine → ℕ → Option Reason
trap_in Free s h = trap s h
trap_in (Hold m late) s h = late_trap s h
trap_in (Pass m late again) s h = late_trap s h
trap_in (Back m late) s h = late_trap s h
trap_in (Leave m late) s h = late_trap s h
trap_in (Over ending) s h = late_trap s h

-- a hart that runs executes where it isn't halted, has no interrupt to take, no trap, and the limit isn't reached
abbrev pub may_run : State → ℕ → Bool
may_run s h =
    runs s.mode s.machine.opened h && (not (context_at s.machine h).halted && (not (is_takeable (context_at s.machine h))
    && (nat_lt s.machine.steps s.machine.limit && is_none (trap_in s.mode s.machine h))))

-- a hart that owes an instruction executes it where it doesn't fault
abbrev pub may_pass : State → ℕ → Bool
may_pass s h = owes s.mode h && is_none (fault_of s.machine h)

-- a hart that runs takes its interrupt where it may, and the limit isn't reached
abbrev pub may_take : State → ℕ → Bool
may_take s h =
    runs s.mode s.machine.opened h && (is_takeable (context_at s.machine h) && nat_lt s.machine.steps s.machine.limit)

-- Sessions.

-- a session with no late harts, where there is a reason
abbrev pub opened_for : State → Hart → Option Reason → Option Done
opened_for s m None = None
opened_for s m (Some reason) = Some (session s.machine m reason)

-- whether these harts can be late in a session of m: there are some, all of them the machine's, and m is none of them
abbrev pub can_be_late : State → Hart → ℕ → Bool
can_be_late s m late =
    is_hart s.machine m.0 && (not (late == 0) && (nat_lt late (2 ^ hart_count s.machine) && not (has_bit late m.0)))

-- a session with late harts is open
abbrev pub held_from : Hart → ℕ → Cut → Done
held_from m late c = record { text = c.text; next = record { machine = c.machine; mode = Hold m late } }

-- a session with late harts opens, where there is a reason
abbrev pub held_for : State → Hart → ℕ → Option Reason → Option Done
held_for s m late None = None
held_for s m late (Some reason) = Some (held_from m late (session_opening s.machine m late reason))

-- after a line of a session with late harts: the mode in which it left, else the session goes on
abbrev pub after_held_line : Hart → ℕ → Cut → Done
after_held_line m late c = record { text = c.text; next = record { machine = c.machine; mode = unwrap_or c.left (Hold m late) } }

-- the next line of a session with late harts
abbrev pub held_line : Mode → List (List ℕ) → Machine → Option Done
held_line (Hold m late) (line ∷ rest) s = Some (after_held_line m late (line_effect m late line (with_read s rest)))
held_line mode unread s = None

-- the closing of a session with late harts that a line left
abbrev pub closed : Mode → Machine → Option Done
closed (Leave m late) s = Some (record { text = []; next = record { machine = s; mode = Free } })
closed mode s = None

-- Endings.

-- whether each hart is halted
abbrev pub all_halted : List Context → Bool
all_halted cs = list_all (λ c. c.halted) cs

-- whether the ending is true of a free machine
abbrev pub is_true_ending : Machine → Ending → Bool
is_true_ending s ScriptEnd = false
is_true_ending s AllHalted = all_halted s.seen.harts
is_true_ending s StepLimit = not (all_halted s.seen.harts) && nat_le s.limit s.steps
is_true_ending s PlanEnd = false

-- whether a session with late harts is open and no line is unread
abbrev pub holds_at_end : Mode → List (List ℕ) → Bool
holds_at_end (Hold m late) [] = true
holds_at_end mode unread = false

-- the run is over where the ending is true and no session is open
abbrev pub ended : State → Ending → Option Done
ended s ending =
    if is_free s.mode && is_true_ending s.machine ending
    then Some (record { text = []; next = record { machine = s.machine; mode = Over ending } })
    else None

-- Steps.

-- What an allowed step prints and leaves; None where the step isn't allowed.
unfoldable pub does : State → AStep → Option Done
does s (Instr h) =
    if is_hart s.machine h.0 && (may_run s h.0 || may_pass s h.0)
    then Some (record { text = console_text s.machine h.0; next = record { machine = executed s.machine h.0; mode = mode_after s.mode h.0 } })
    else None
does s (Intr h) =
    if is_hart s.machine h.0 && may_take s h.0
    then Some (record { text = []; next = record { machine = interrupted s.machine h.0; mode = s.mode } })
    else None
does s (Session m) = if is_hart s.machine m.0 then opened_for s m (opening_reason s.mode s.machine m.0 0) else None
does s (Enter m late) = if can_be_late s m late then held_for s m late (opening_reason s.mode s.machine m.0 late) else None
does s Line = held_line s.mode s.machine.unread s.machine
does s End = closed s.mode s.machine
does s (Off ScriptEnd) =
    if holds_at_end s.mode s.machine.unread
    then Some (record { text = prompt_text s.machine ++ newline; next = record { machine = s.machine; mode = Over ScriptEnd } })
    else None
does s (Off AllHalted) = ended s AllHalted
does s (Off StepLimit) = ended s StepLimit
does s (Off PlanEnd) = None
