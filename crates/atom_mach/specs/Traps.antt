-- What a hart meets at its pc: the word there, its fault, the trap that stops the hart, and what the instruction does.
use Rattle.std.specs.Prelude.{ℕ, ◌+◌, ◌==◌, ◌&&◌, Bool, not, List, [], Option, Some, None, Result, Ok, Err, option_map, if◌then◌else◌}
use Rattle.std.specs.Option.{option_to_list}
use Rattle.mach_base.specs.Machine.{Context, Memory, Place, Machine}
use Rattle.mach_base.specs.declared.event.Fault.{Fault}
use Rattle.mach_base.specs.declared.event.Reason.{Reason}
use Rattle.mach_base.specs.declared.event.Reason.TheVariants.{Start, Breakpoint, Compiled, Fault as FaultReason}
use Rattle.rv_table.specs.declared.table.TheConstants.{EBREAK}
use Rattle.mem_map.specs.Access.{fetch_result}
use Rattle.trap_ipi.specs.Interrupt.{after_interrupt}
use Rattle.hart_step.specs.declared.control.After.{After}
use Rattle.hart_step.specs.declared.control.After.TheVariants.{Nowhere}
use Rattle.hart_step.specs.Control.{next_pc as next_of_word}
use Rattle.hart_step.specs.Faults.{word_fault}
use Rattle.hart_step.specs.Execution.{contexts_after, memory_after, byte_sent}
use Rattle.kdb_bp.specs.Breaks.{first_enabled}
use Rattle.atom_mach.specs.State.{hart_count, context_at, with_context}

-- Of a context among so many harts, over this memory, with the word that was fetched at the pc, or the fault of the fetch.

-- the fault of the instruction, if any: that of the fetch, then that of the word
abbrev pub fault_of_fetched : Context → ℕ → Memory → Result ℕ Fault → Option Fault
fault_of_fetched c harts m (Ok word) = word_fault c harts m word
fault_of_fetched c harts m (Err fault) = Some fault

-- the pc after the instruction; nowhere where the fetch faults
abbrev pub next_of_fetched : Context → ℕ → Result ℕ Fault → After
next_of_fetched c harts (Ok word) = next_of_word c harts word
next_of_fetched c harts (Err fault) = Nowhere

-- the trap of the word: an ebreak of the image, or a fault
abbrev pub trap_of_fetched : Context → ℕ → Memory → Result ℕ Fault → Option Reason
trap_of_fetched c harts m (Err fault) = Some (FaultReason fault)
trap_of_fetched c harts m (Ok word) = if word == EBREAK then Some Compiled else option_map FaultReason (word_fault c harts m word)

-- the breakpoint, if there is one, before any other trap
abbrev pub breakpoint_or : Option ℕ → Option Reason → Option Reason
breakpoint_or (Some i) other = Some (Breakpoint i)
breakpoint_or None other = other

-- the trap of hart h where breakpoints don't count: the start, before which no session was opened; none where the hart is
-- halted; then that of the word
abbrev pub late_trap_of : Bool → ℕ → Context → ℕ → Memory → Result ℕ Fault → Option Reason
late_trap_of opened h c harts m fetched =
    if not opened && (h == 0) then Some Start
    else (if c.halted then None
    else trap_of_fetched c harts m fetched)

-- the trap of hart h over these breakpoint places: a breakpoint comes before the trap of the word
abbrev pub trap_of : Bool → List (Option Place) → ℕ → Context → ℕ → Memory → Result ℕ Fault → Option Reason
trap_of opened places h c harts m fetched =
    if not opened && (h == 0) then Some Start
    else (if c.halted then None
    else breakpoint_or (first_enabled c.pc places) (trap_of_fetched c harts m fetched))

-- Of a hart in a state.

-- the word at the hart's pc, or the fault of fetching it
abbrev pub fetched_at : Machine → ℕ → Result ℕ Fault
fetched_at s h = fetch_result s.seen.memory (context_at s h).pc

-- The fault of the hart's instruction, if any.
unfoldable pub fault_of : Machine → ℕ → Option Fault
fault_of s h = fault_of_fetched (context_at s h) (hart_count s) s.seen.memory (fetched_at s h)

-- The pc after the hart's instruction; nowhere where the fetch faults, and where the word leads nowhere.
unfoldable pub next_pc : Machine → ℕ → After
next_pc s h = next_of_fetched (context_at s h) (hart_count s) (fetched_at s h)

-- The trap of a hart for which breakpoints don't count.
unfoldable pub late_trap : Machine → ℕ → Option Reason
late_trap s h = late_trap_of s.opened h (context_at s h) (hart_count s) s.seen.memory (fetched_at s h)

-- The trap of a hart.
unfoldable pub trap : Machine → ℕ → Option Reason
trap s h = trap_of s.opened s.seen.places h (context_at s h) (hart_count s) s.seen.memory (fetched_at s h)

-- Execution.

-- the contexts after hart h executed what was fetched
abbrev contexts_of_fetched : List Context → Memory → ℕ → Result ℕ Fault → List Context
contexts_of_fetched cs m h (Ok word) = contexts_after cs m h word
contexts_of_fetched cs m h (Err fault) = cs

-- memory after a hart in this context executed what was fetched
abbrev memory_of_fetched : Memory → Context → Result ℕ Fault → Memory
memory_of_fetched m c (Ok word) = memory_after m c word
memory_of_fetched m c (Err fault) = m

-- The machine after the hart's instruction, where it doesn't fault; a step is counted.
unfoldable pub executed : Machine → ℕ → Machine
executed s h = record s {
  seen = record s.seen {
    harts = contexts_of_fetched s.seen.harts s.seen.memory h (fetched_at s h);
    memory = memory_of_fetched s.seen.memory (context_at s h) (fetched_at s h);
  };
  steps = s.steps + 1;
}

-- what hart h sends to the console by executing what was fetched
abbrev sent_of_fetched : List Context → ℕ → Result ℕ Fault → List ℕ
sent_of_fetched cs h (Ok word) = option_to_list (byte_sent cs h word)
sent_of_fetched cs h (Err fault) = []

-- What the hart's instruction sends to the console.
unfoldable pub console_text : Machine → ℕ → List ℕ
console_text s h = sent_of_fetched s.seen.harts h (fetched_at s h)

-- one step more
abbrev pub counted : Machine → Machine
counted s = record s { steps = s.steps + 1 }

-- the machine after the hart's interrupt is taken; a step is counted
abbrev pub interrupted : Machine → ℕ → Machine
interrupted s h = counted (with_context s h (after_interrupt (context_at s h)))
