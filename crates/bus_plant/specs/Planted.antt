-- Memory with planted words: what its bytes are in truth, and where `ebreak` is written over them.
use Rattle.std.specs.Prelude.{◌≡◌, ℕ, zero, suc, ◌==◌, ◌||◌, Bool, true, false, List, [], ◌∷◌, length, replicate, slice_index_or, slice_set, Option, Some, None, is_some, if◌then◌else◌}
use Rattle.mach_base.specs.Machine.{Context, Memory}
use Rattle.mach_base.specs.Masks.{mask_with}
use Rattle.mach_base.specs.declared.limits.TheConstants.{PLACES}
use Rattle.mem_map.specs.Access.{access_fault, after_store}
use Rattle.mem_map.specs.declared.rights.Access.TheVariants.{Fetch}
use Rattle.hart_ctx.specs.Context.{context_of}
use Rattle.hart_step.specs.Execution.{fault_for, memory_after, unless_faulted}
use Rattle.mem_map.specs.Pages.{PagedMemory, page_base, with_text}
use Rattle.rv_table.specs.Rows.{ebreak_word}

-- True memory; for each breakpoint place the address of the word at which it is planted, if it is; and the address of the
-- step word, if there is one.
pub record PlantedMemory : Type 0 where
  pub memory : Memory
  pub places : List (Option ℕ)
  pub step : Option ℕ

-- planted memory, and for each page whether it is marked as changed; planting marks the page, too
pub record PlantedPages : Type 0 where
  pub planted : PlantedMemory
  pub changed : List Bool

-- memory in which nothing is planted
abbrev pub unplanted : Memory → PlantedMemory
unplanted m = record { memory = m; places = replicate PLACES None; step = None }

-- the addresses of the planted words
abbrev pub planted_addresses : PlantedMemory → List (Option ℕ)
planted_addresses p = p.step ∷ p.places

-- whether the address is one of these
abbrev pub has_address : List (Option ℕ) → ℕ → Bool
has_address [] addr = false
has_address (None ∷ rest) addr = has_address rest addr
has_address (Some a ∷ rest) addr = (a == addr) || has_address rest addr

-- whether a word is planted at the address
abbrev pub is_planted : PlantedMemory → ℕ → Bool
is_planted p addr = has_address (planted_addresses p) addr

-- memory with `ebreak` over the words at these addresses
abbrev pub with_ebreaks : Memory → List (Option ℕ) → Memory
with_ebreaks m [] = m
with_ebreaks m (None ∷ rest) = with_ebreaks m rest
with_ebreaks m (Some addr ∷ rest) = after_store (with_ebreaks m rest) addr 4 ebreak_word

-- Raw memory: what the bytes are while the words are planted.
unfoldable pub raw_memory : PlantedMemory → Memory
raw_memory p = with_ebreaks p.memory (planted_addresses p)

-- raw memory with its marks
abbrev pub raw_pages : PlantedPages → PagedMemory
raw_pages p = record { memory = raw_memory p.planted; changed = p.changed }

-- planted memory after hart h has executed the word: as before, where it faults
abbrev pub after_word : PlantedMemory → List Context → ℕ → ℕ → PlantedMemory
after_word p cs h word = unless_faulted (fault_for cs p.memory h word) p (record p { memory = memory_after p.memory (context_of cs h) word })

-- planted memory after a text is written as a whole page, and the page is marked
abbrev pub with_page : PlantedPages → ℕ → List ℕ → PlantedPages
with_page p page text = record {
  planted = record p.planted { memory = with_text p.planted.memory (page_base p.planted.memory.segments page) text };
  changed = slice_set p.changed page true;
}

-- fetching at each of the addresses doesn't fault: a whole word of text is there
abbrev pub AreText : Memory → List (Option ℕ) → Type 0
AreText m [] = Unit {0}
AreText m (None ∷ rest) = AreText m rest
AreText m (Some addr ∷ rest) = (access_fault m Fetch addr 4 ≡ None) × AreText m rest

-- no two of the addresses are the same
abbrev pub AreDistinct : List (Option ℕ) → Type 0
AreDistinct [] = Unit {0}
AreDistinct (None ∷ rest) = AreDistinct rest
AreDistinct (Some addr ∷ rest) = (has_address rest addr ≡ false) × AreDistinct rest

-- what holds of every planted memory: its planted words are words of text, and no two are the same
pub record IsPlanted (p : PlantedMemory) : Type 0 where
  pub places : length p.places ≡ PLACES
  pub text : AreText p.memory (planted_addresses p)
  pub distinct : AreDistinct (planted_addresses p)

-- the mask of the first so many places that are planted
abbrev pub planted_mask : List (Option ℕ) → ℕ → ℕ
planted_mask places zero = 0
planted_mask places (suc n) = if is_some (slice_index_or places n None) then mask_with (planted_mask places n) n else planted_mask places n
