-- The entries of a journal: where each is legal, what it prints and what it changes.
use Rattle.std.specs.Prelude.{ℕ, ◌^◌, ◌==◌, ◌&&◌, ◌||◌, Bool, true, false, not, List, [], ◌∷◌, ◌++◌, slice_index_or, slice_set, Option, Some, None, is_some, is_none, option_map, nat_lt, Result, Ok, Err, if◌then◌else◌}
use Rattle.mach_base.specs.Texts.{newline}
use Rattle.mach_base.specs.Masks.{has_bit}
use Rattle.mach_base.specs.Machine.{Machine, is_text_word}
use Rattle.mach_base.specs.declared.event.Hart.{Hart}
use Rattle.mach_base.specs.declared.event.Fault.{Fault}
use Rattle.mach_base.specs.declared.event.Reason.{Reason}
use Rattle.mach_base.specs.declared.event.Reason.TheVariants as reason
use Rattle.mach_base.specs.declared.event.Ending.{Ending}
use Rattle.mach_base.specs.declared.event.Ending.TheVariants.{ScriptEnd, AllHalted, StepLimit, PlanEnd}
use Rattle.mach_base.specs.declared.event.Entry.{Entry}
use Rattle.mach_base.specs.declared.event.Entry.TheVariants.{Step, Intr, Send, Take, Open, Pull, Line, Plant, PlantStep, PullStep, Close, Off}
use Rattle.rv_table.specs.declared.table.TheConstants.{EBREAK}
use Rattle.mem_map.specs.Access.{fetch_result}
use Rattle.trap_ipi.specs.Interrupt.{is_takeable}
use Rattle.hart_step.specs.declared.control.After.{After}
use Rattle.hart_step.specs.declared.control.After.TheVariants.{At, Nowhere}
use Rattle.bus_plant.specs.Planted.{raw_memory}
use Rattle.deck_core.specs.declared.plain.notes.Sitting.{Sitting}
use Rattle.deck_core.specs.declared.plain.notes.Stage.{Stage}
use Rattle.deck_core.specs.declared.plain.notes.Stage.TheVariants as stage
use Rattle.deck_core.specs.contract.Allowed.{in_session, is_of, is_lines, is_pass, is_leaving, is_address}
use Rattle.atom_mach.specs.declared.step.Mode.{Mode}
use Rattle.atom_mach.specs.declared.step.Mode.TheVariants as mode
use Rattle.atom_mach.specs.State.{hart_count, context_at}
use Rattle.atom_mach.specs.Traps.{fault_of, next_pc, trap, executed, console_text, interrupted}
use Rattle.atom_mach.specs.Session.{Cut, is_hart, session_opening, prompt_text, with_read, line_effect}
use Rattle.atom_mach.specs.Step.{is_true_ending}
use Rattle.plant_mach.specs.Machine.{PlantedMachine, memory_in, planted_at, enabled_at, planted_of, enabled_of, is_held}

-- what an entry prints, and the machine after it
pub record Made : Type 0 where
  pub text : List ℕ
  pub next : PlantedMachine

-- Instructions.

-- what the hart fetches at its pc from raw memory
abbrev pub raw_fetched : PlantedMachine → ℕ → Result ℕ Fault
raw_fetched p h = fetch_result (raw_memory (memory_in p)) (context_at p.machine h).pc

-- whether `ebreak` was fetched
abbrev pub is_ebreak : Result ℕ Fault → Bool
is_ebreak (Ok word) = word == EBREAK
is_ebreak (Err fault) = false

-- whether the instruction at the hart's pc faults
abbrev pub faults : PlantedMachine → ℕ → Bool
faults p h = is_some (fault_of p.machine h)

-- the address, where a word of text stands there and it isn't the pc
abbrev pub text_elsewhere : Machine → ℕ → After → Option ℕ
text_elsewhere s pc Nowhere = None
text_elsewhere s pc (At addr) = if is_text_word s.seen.memory addr && not (addr == pc) then Some addr else None

-- where the step word belongs while the hart makes the step that it owes: at the pc after its instruction, where that is
-- another word of text
abbrev pub step_address : Machine → ℕ → Option ℕ
step_address s h = text_elsewhere s (context_at s h).pc (next_pc s h)

-- whether the hart, which owes no step, may execute: no session holds it, the limit isn't reached, it has no interrupt to
-- take, and what it fetches is no `ebreak` and doesn't fault
abbrev pub may_run : PlantedMachine → ℕ → Bool
may_run p h =
    not (is_held p h) && (nat_lt p.machine.steps p.machine.limit && (not (is_takeable (context_at p.machine h))
    && (not (is_ebreak (raw_fetched p h)) && not (faults p h))))

-- whether the step word stands exactly where it is to stand
abbrev pub is_step_ready : Option ℕ → Option ℕ → Bool
is_step_ready wanted None = is_none wanted
is_step_ready wanted (Some addr) = is_some wanted

-- whether the hart may make the step that it owes, in a single-step pass of its session
abbrev pub may_pass : PlantedMachine → ℕ → Bool
may_pass p h =
    in_session (λ s. is_of h s && is_pass s.stage) p.session
    && (not (faults p h) && is_step_ready (step_address p.machine h) p.step)

-- the stage after the step of a pass
abbrev pub after_pass : Stage → Stage
after_pass (stage.Pass true) = stage.Back
after_pass (stage.Pass false) = stage.Leaving
after_pass other = other

-- the session after an instruction of the hart
abbrev pub after_step : ℕ → Sitting → Sitting
after_step h s = if is_of h s then record s { stage = after_pass s.stage } else s

-- Interrupts and calls.

-- whether a call of the hart is pending
abbrev pub is_called : PlantedMachine → ℕ → Bool
is_called p h = slice_index_or p.calls h false

-- Openings.

-- whether the harts can be the master and the late ones of a session: they are the machine's, and the master isn't late
abbrev pub can_sit : Machine → ℕ → ℕ → Bool
can_sit s m late = is_hart s m && (nat_lt late (2 ^ hart_count s) && not (has_bit late m))

-- why a session opens again at this stage, if it does: the step was made, or the instruction that is owed faults
abbrev pub reason_again : Machine → ℕ → Stage → Option Reason
reason_again s m stage.Back = Some reason.Step
reason_again s m (stage.Pass again) = option_map reason.Fault (fault_of s m)
reason_again s m other = None

-- why m may open a session with these late harts: without a session its trap; in its own with the same late harts and no
-- step word, as the stage says
abbrev pub reason_in : Option Sitting → PlantedMachine → ℕ → ℕ → Option Reason
reason_in None p m late = trap p.machine m
reason_in (Some s) p m late =
    if is_of m s && ((s.late == late) && is_none p.step) then reason_again p.machine m s.stage else None

-- the reason of an opening now
abbrev pub reason_now : PlantedMachine → ℕ → ℕ → Option Reason
reason_now p m late = reason_in p.session p m late

-- an opening for this reason; nothing without one
abbrev pub opened_for : PlantedMachine → Hart → ℕ → Option Reason → Made
opened_for p m late None = record { text = []; next = p }
opened_for p m late (Some why) = record {
  text = (session_opening p.machine m late why).text;
  next = record p {
    machine = (session_opening p.machine m late why).machine;
    session = Some (record { master = m; late = late; stage = stage.Lines });
  };
}

-- Lines.

-- whether there is a line
abbrev pub has_line : List (List ℕ) → Bool
has_line [] = false
has_line (line ∷ rest) = true

-- the stage after a line that left the session in this mode, or didn't leave it
abbrev pub stage_after : Option Mode → Stage
stage_after None = stage.Lines
stage_after (Some (mode.Pass m late again)) = stage.Pass again
stage_after (Some other) = stage.Leaving

-- what a line of the session gives to which the debugger answers so
abbrev pub line_made : PlantedMachine → Sitting → Cut → Made
line_made p s c = record {
  text = c.text;
  next = record p { machine = c.machine; session = Some (record s { stage = stage_after c.left }) };
}

-- the next of these lines in this session; nothing where there is none
abbrev pub read_in : Option Sitting → List (List ℕ) → PlantedMachine → Made
read_in (Some s) (line ∷ rest) p = line_made p s (line_effect s.master s.late line (with_read p.machine rest))
read_in session unread p = record { text = []; next = p }

-- Endings.

-- whether the run may end so: the script's end comes at a prompt with no place planted that finds no line; the others
-- without a session, where they are true
abbrev pub may_end : PlantedMachine → Ending → Bool
may_end p ScriptEnd =
    in_session (λ s. is_lines s.stage) p.session && ((planted_of p == 0) && not (has_line p.machine.unread))
may_end p AllHalted = is_none p.session && is_true_ending p.machine AllHalted
may_end p StepLimit = is_none p.session && is_true_ending p.machine StepLimit
may_end p PlanEnd = false

-- what an ending prints: a prompt at the script's end
abbrev pub last_words : Machine → Ending → List ℕ
last_words s ScriptEnd = prompt_text s ++ newline
last_words s other = []

-- Entries.

-- whether the step word may be taken out: its step was made, or can't be made
abbrev pub may_pull_step : PlantedMachine → Sitting → Bool
may_pull_step p s = not (is_pass s.stage) || faults p s.master.0

-- Whether the entry is legal, while the run hasn't ended.
unfoldable pub may : PlantedMachine → Entry → Bool
may p (Step h) =
    is_hart p.machine h.0 && (p.machine.opened && (not (context_at p.machine h.0).halted && (may_run p h.0 || may_pass p h.0)))
may p (Intr h) =
    is_hart p.machine h.0 && (p.machine.opened && (not (is_held p h.0)
    && (is_takeable (context_at p.machine h.0) && nat_lt p.machine.steps p.machine.limit)))
may p (Send h) = is_hart p.machine h.0 && is_none p.session
may p (Take h) =
    is_hart p.machine h.0 && (is_called p h.0 && ((not (context_at p.machine h.0).masked || (context_at p.machine h.0).halted)
    && not (is_held p h.0)))
may p (Open m late) = can_sit p.machine m.0 late && is_some (reason_now p m.0 late)
may p (Pull i) = in_session (λ s. is_lines s.stage) p.session && is_some (planted_at p i)
may p (Line h) =
    in_session (λ s. is_of h.0 s && is_lines s.stage) p.session && ((planted_of p == 0) && has_line p.machine.unread)
may p (PlantStep addr) =
    in_session (λ s. is_pass s.stage && is_address addr (step_address p.machine s.master.0)) p.session && is_none p.step
may p PullStep = is_some p.step && in_session (may_pull_step p) p.session
may p (Plant i) =
    in_session (λ s. is_leaving s.stage) p.session && (is_none p.step && (is_some (enabled_at p i) && is_none (planted_at p i)))
may p (Close h) =
    in_session (λ s. is_of h.0 s && is_leaving s.stage) p.session && (is_none p.step && (planted_of p == enabled_of p))
may p (Off ending) = may_end p ending

-- What the entry prints and changes, where it is legal.
unfoldable pub effect : PlantedMachine → Entry → Made
effect p (Step h) = record {
  text = console_text p.machine h.0;
  next = record p { machine = executed p.machine h.0; session = option_map (after_step h.0) p.session };
}
effect p (Intr h) = record { text = []; next = record p { machine = interrupted p.machine h.0 } }
effect p (Send h) = record { text = []; next = record p { calls = slice_set p.calls h.0 true } }
effect p (Take h) = record { text = []; next = record p { calls = slice_set p.calls h.0 false } }
effect p (Open m late) = opened_for p m late (reason_now p m.0 late)
effect p (Pull i) = record { text = []; next = record p { places = slice_set p.places i None } }
effect p (Line h) = read_in p.session p.machine.unread p
effect p (PlantStep addr) = record { text = []; next = record p { step = Some addr } }
effect p PullStep = record { text = []; next = record p { step = None } }
effect p (Plant i) = record { text = []; next = record p { places = slice_set p.places i (enabled_at p i) } }
effect p (Close h) = record { text = []; next = record p { session = None } }
effect p (Off ending) = record { text = last_words p.machine ending; next = record p { ending = Some ending } }

-- What a legal entry prints and leaves; none where it isn't legal, as all are once the run has ended.
unfoldable pub makes : PlantedMachine → Entry → Option Made
makes p e = if is_none p.ending && may p e then Some (effect p e) else None

-- Lists of entries.

-- the text before what follows
abbrev pub prefixed : List ℕ → Made → Made
prefixed text d = record { text = text ++ d.text; next = d.next }

-- what an entry prints, then what the entries after it print
abbrev pub then_made : Option Made → (PlantedMachine → Option Made) → Option Made
then_made None rest = None
then_made (Some d) rest = option_map (prefixed d.text) (rest d.next)

-- What these entries print, in order, and the machine after them; none where one isn't legal after those before.
unfoldable pub made_by : PlantedMachine → List Entry → Option Made
made_by p [] = Some (record { text = []; next = p })
made_by p (e ∷ es) = then_made (makes p e) (λ next. made_by next es)
