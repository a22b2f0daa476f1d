-- What execution, faults, the next pc and the other harts have to do with each other.
use Rattle.std.specs.Prelude.{◌≡◌, ◌≢◌, ℕ, ◌<◌, List, length, slice_set, None}
use Rattle.mach_base.specs.Machine.{Context, Memory}
use Rattle.hart_ctx.specs.Context.{context_of, IsUnmoved}
use Rattle.mem_map.specs.declared.rights.Access.{Access}
use Rattle.mem_map.specs.Access.{access_fault, fetch_result}
use Rattle.trap_ipi.specs.Interrupt.{after_interrupt}
use Rattle.hart_step.specs.declared.control.After.TheVariants.{At}
use Rattle.hart_step.specs.Control.{next_pc}
use Rattle.hart_step.specs.Faults.{word_fault}
use Rattle.hart_step.specs.Execution.{contexts_after, memory_after}

-- where a word doesn't fault, the pc after executing it is the next pc
abbrev pub ExecutionLeadsToNext : Type 0
ExecutionLeadsToNext =
    (cs : List Context) (m : Memory) (h word : ℕ) → h < length cs → word_fault (context_of cs h) (length cs) m word ≡ None →
    At (context_of (contexts_after cs m h word) h).pc ≡ next_pc (context_of cs h) (length cs) word

-- execution by hart h leaves the context of every other hart, but for its pending interrupt and its reservation
abbrev pub ExecutionKeepsOthers : Type 0
ExecutionKeepsOthers =
    (cs : List Context) (m : Memory) (h word other : ℕ) → other ≢ h →
    IsUnmoved (context_of cs other) (context_of (contexts_after cs m h word) other)

-- neither the pending interrupt nor the reservation of a hart counts for its faults and its next pc
abbrev pub UnmovedContextsAgree : Type 0
UnmovedContextsAgree =
    (c d : Context) (harts : ℕ) (m : Memory) (word : ℕ) → IsUnmoved c d →
    (word_fault d harts m word ≡ word_fault c harts m word) × (next_pc d harts word ≡ next_pc c harts word)

-- execution keeps the number of harts, and the segments
abbrev pub ExecutionKeepsShape : Type 0
ExecutionKeepsShape =
    (cs : List Context) (m : Memory) (h word : ℕ) →
    (length (contexts_after cs m h word) ≡ length cs) × ((memory_after m (context_of cs h) word).segments ≡ m.segments)

-- after a word that doesn't fault each access faults as before it
abbrev pub ExecutionKeepsFaults : Type 0
ExecutionKeepsFaults =
    (c : Context) (harts : ℕ) (m : Memory) (word : ℕ) → word_fault c harts m word ≡ None → (access : Access) (at size : ℕ) →
    access_fault (memory_after m c word) access at size ≡ access_fault m access at size

-- and each fetch gives what it gave before
abbrev pub ExecutionKeepsText : Type 0
ExecutionKeepsText =
    (c : Context) (harts : ℕ) (m : Memory) (word : ℕ) → word_fault c harts m word ≡ None → (at : ℕ) →
    fetch_result (memory_after m c word) at ≡ fetch_result m at

-- and so each word faults for every other hart as before, and leads where it led before
abbrev pub ExecutionKeepsFaultsOfOthers : Type 0
ExecutionKeepsFaultsOfOthers =
    (cs : List Context) (m : Memory) (h word other harts own : ℕ) → other ≢ h → word_fault (context_of cs h) harts m word ≡ None →
    (word_fault (context_of (contexts_after cs m h word) other) harts (memory_after m (context_of cs h) word) own ≡ word_fault (context_of cs other) harts m own)
    × (next_pc (context_of (contexts_after cs m h word) other) harts own ≡ next_pc (context_of cs other) harts own)

-- an interrupt that hart h takes leaves every other hart
abbrev pub InterruptKeepsOthers : Type 0
InterruptKeepsOthers =
    (cs : List Context) (h other : ℕ) → other ≢ h →
    context_of (slice_set cs h (after_interrupt (context_of cs h))) other ≡ context_of cs other
