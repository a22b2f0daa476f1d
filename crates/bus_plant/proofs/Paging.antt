-- The pages of planted memory.
use Rattle.std.proofs.Common.{◌≡◌, ℕ, zero, suc, List, [], ◌∷◌, get_or, refl, sym}
use Rattle.std.specs.Prelude.{Option, Some, None}
use Rattle.std.proofs.lemmas.Option.{none-some}
use Rattle.mach_base.specs.Machine.{Memory}
use Rattle.mem_map.specs.Pages.{PagedMemory, KeepsUnmarked}
use Rattle.mem_map.proofs.Kept.{paged}
use Rattle.bus_plant.specs.Planted.{PlantedPages, raw_pages}
use Rattle.bus_plant.specs.Saved.{addresses, planted_memory, with_words, IsKept}
use Rattle.bus_plant.specs.declared.saved.Saved.{Saved}
use Rattle.bus_plant.proofs.Raw.{planted-kept}

-- planted memory with the marks of its bytes
abbrev pub planted_pages : PagedMemory → List (Option Saved) → Option Saved → PlantedPages
planted_pages raw places step = record { planted = planted_memory raw.memory places step; changed = raw.changed }

-- raw memory is what is kept
pub raw-pages : (raw : PagedMemory) (places : List (Option Saved)) (step : Option Saved) → IsKept raw.memory (step ∷ places) → raw_pages (planted_pages raw places step) ≡ raw
raw-pages raw places step kept = paged _ _ _ _ (planted-kept raw.memory places step kept) refl

-- what is kept of the pages without a mark is kept in raw memory
pub raw-kept : (raw raw' : PagedMemory) (places places' : List (Option Saved)) (step step' : Option Saved) → IsKept raw.memory (step ∷ places) → IsKept raw'.memory (step' ∷ places') → KeepsUnmarked raw raw' → KeepsUnmarked (raw_pages (planted_pages raw places step)) (raw_pages (planted_pages raw' places' step'))
raw-kept raw raw' places places' step step' kept kept' h = rw (raw-pages raw places step kept, raw-pages raw' places' step' kept') h

-- where nothing is planted, memory is as it is kept

pub free-words : (m : Memory) (words : List (Option Saved)) → ((k : ℕ) → get_or (addresses words) k None ≡ None) → with_words m words ≡ m
free-words m [] free = refl
free-words m (None ∷ rest) free = free-words m rest (λ k. free (suc k))
free-words m (Some s ∷ rest) free = absurd (none-some _ (sym (free 0)))

pub free-kept : (m : Memory) (words : List (Option Saved)) → ((k : ℕ) → get_or (addresses words) k None ≡ None) → IsKept m words
free-kept m [] free = record { text = tt; distinct = tt; ebreaks = tt }
free-kept m (None ∷ rest) free =
    let kept = free-kept m rest (λ k. free (suc k)) in
    record { text = kept.text; distinct = kept.distinct; ebreaks = kept.ebreaks }
free-kept m (Some s ∷ rest) free = absurd (none-some _ (sym (free 0)))

pub free-slots : (m : Memory) (places : List (Option Saved)) (step : Option Saved) → ((k : ℕ) → get_or (planted_memory m places step).places k None ≡ None) → (planted_memory m places step).step ≡ None → (k : ℕ) → get_or (addresses (step ∷ places)) k None ≡ None
free-slots m places step free none zero = none
free-slots m places step free none (suc k) = free k
