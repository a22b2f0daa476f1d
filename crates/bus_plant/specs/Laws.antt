-- What accesses and instructions see of raw memory: all that they see of true memory, but for the `ebreak` that is fetched.
use Rattle.std.specs.Prelude.{◌≡◌, ℕ, ◌-◌, ◌%◌, false, List, slice_set, Some, None, Ok, if◌then◌else◌}
use Rattle.mach_base.specs.Bytes.{byte_of}
use Rattle.mach_base.specs.Machine.{Context, byte_at}
use Rattle.hart_ctx.specs.Context.{context_of}
use Rattle.mem_map.specs.Access.{access_fault, fetch_result, load_result, store_fault, after_store}
use Rattle.mem_map.specs.declared.rights.Access.{Access}
use Rattle.mem_map.specs.declared.rights.Access.TheVariants.{Fetch}
use Rattle.hart_step.specs.Execution.{contexts_after, memory_after}
use Rattle.hart_step.specs.Faults.{word_fault}
use Rattle.rv_table.specs.Rows.{ebreak_word}
use Rattle.bus_plant.specs.Planted.{PlantedMemory, IsPlanted, is_planted, raw_memory}

-- to plant a place at a word of text where nothing is planted, to plant the step word there, to pull one, and to execute a
-- word that doesn't fault leave planted words of text
pub record KeepPlanted : Type 0 where
  pub plant : (p : PlantedMemory) (i addr : ℕ) → IsPlanted p → access_fault p.memory Fetch addr 4 ≡ None → is_planted p addr ≡ false → IsPlanted (record p { places = slice_set p.places i (Some addr) })
  pub pull : (p : PlantedMemory) (i : ℕ) → IsPlanted p → IsPlanted (record p { places = slice_set p.places i None })
  pub plant_step : (p : PlantedMemory) (addr : ℕ) → IsPlanted p → p.step ≡ None → access_fault p.memory Fetch addr 4 ≡ None → is_planted p addr ≡ false → IsPlanted (record p { step = Some addr })
  pub pull_step : (p : PlantedMemory) → IsPlanted p → IsPlanted (record p { step = None })
  pub execution : (p : PlantedMemory) (c : Context) (harts word : ℕ) → IsPlanted p → word_fault c harts p.memory word ≡ None → IsPlanted (record p { memory = memory_after p.memory c word })

-- raw memory has the bytes of `ebreak` in the planted words, and all other bytes of true memory
abbrev pub RawBytes : Type 0
RawBytes =
    (p : PlantedMemory) → IsPlanted p → (at : ℕ) →
    byte_at (raw_memory p) at ≡ (if is_planted p (at - at % 4) then Some (byte_of ebreak_word (at % 4)) else byte_at p.memory at)

-- a fetch gives `ebreak` where a word is planted, and else the true word
abbrev pub RawFetches : Type 0
RawFetches =
    (p : PlantedMemory) → IsPlanted p → (at : ℕ) →
    fetch_result (raw_memory p) at ≡ (if is_planted p at then Ok ebreak_word else fetch_result p.memory at)

-- each access faults as in true memory
abbrev pub RawFaults : Type 0
RawFaults =
    (p : PlantedMemory) → IsPlanted p → (access : Access) (at size : ℕ) →
    access_fault (raw_memory p) access at size ≡ access_fault p.memory access at size

-- each load gives what it gives in true memory
abbrev pub RawLoads : Type 0
RawLoads =
    (p : PlantedMemory) → IsPlanted p → (at width : ℕ) → load_result (raw_memory p) at width ≡ load_result p.memory at width

-- a store that doesn't fault does in raw memory what it does in true memory
abbrev pub RawStores : Type 0
RawStores =
    (p : PlantedMemory) → IsPlanted p → (at width value : ℕ) → store_fault p.memory at width ≡ None →
    after_store (raw_memory p) at width value ≡ raw_memory (record p { memory = after_store p.memory at width value })

-- a word has the same fault
abbrev pub RawWordFaults : Type 0
RawWordFaults =
    (p : PlantedMemory) → IsPlanted p → (c : Context) (harts word : ℕ) →
    word_fault c harts (raw_memory p) word ≡ word_fault c harts p.memory word

-- and, where it has none, the same effect: on the contexts, and on memory with what is planted in it
abbrev pub RawExecution : Type 0
RawExecution =
    (p : PlantedMemory) → IsPlanted p → (cs : List Context) (h harts word : ℕ) → word_fault (context_of cs h) harts p.memory word ≡ None →
    (contexts_after cs (raw_memory p) h word ≡ contexts_after cs p.memory h word)
    × (memory_after (raw_memory p) (context_of cs h) word ≡ raw_memory (record p { memory = memory_after p.memory (context_of cs h) word }))
