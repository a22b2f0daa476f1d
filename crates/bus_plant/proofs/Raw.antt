-- Raw memory: memory with `ebreak` in its planted words.
use Rattle.std.proofs.Common.{◌≡◌, ◌≢◌, ℕ, ◌-◌, ◌%◌, ◌^◌, eqb, Bool, true, false, cond, ◌||◌, List, [], ◌∷◌, length, map, Option, Some, None, Ok, Err, refl, sym, ap, ◌∙◌, lit<}
use Rattle.std.proofs.lemmas.Bool.{false≢true}
use Rattle.std.proofs.lemmas.List.{length-map}
use Rattle.mach_base.specs.declared.limits.TheConstants.{PLACES}
use Rattle.mach_base.specs.Bytes.{number_in, byte_of}
use Rattle.mach_base.specs.Machine.{Context, Memory, byte_at}
use Rattle.mach_base.specs.declared.event.Fault.{Fault}
use Rattle.hart_ctx.specs.Context.{context_of}
use Rattle.mem_map.specs.Access.{access_fault, after_store, fetch_result, load_result, store_fault, unless_fault}
use Rattle.mem_map.specs.declared.rights.Access.{Access}
use Rattle.mem_map.specs.declared.rights.Access.TheVariants.{Fetch, Load, Store}
use Rattle.mem_map.proofs.Twice.{last_remains}
use Rattle.hart_step.specs.Faults.{word_fault}
use Rattle.hart_step.specs.Execution.{contexts_after, memory_after}
use Rattle.rv_table.specs.Rows.{ebreak_word}
use Rattle.bus_plant.specs.Planted.{PlantedMemory, IsPlanted, planted_addresses, has_address, is_planted, with_ebreaks, raw_memory, AreText, AreDistinct}
use Rattle.bus_plant.specs.Saved.{address_of, addresses, byte_seen, with_words, saved_word, HoldEbreaks, planted_memory, IsKept}
use Rattle.bus_plant.specs.Laws.{RawBytes, RawFetches, RawFaults, RawLoads, RawStores, RawWordFaults, RawExecution}
use Rattle.bus_plant.specs.declared.saved.Saved.{Saved}
use Rattle.bus_plant.proofs.Bytes.{byte_at-with_words}
use Rattle.bus_plant.proofs.Execution.{word_fault-with_words, contexts-with_words, memory-with_words, store-with_words}
use Rattle.bus_plant.proofs.WithWords.{AllApart, faults-with_words, words-after_store, number_in-with_words, apart-rights, apart-addresses, aligned, load≢fetch, fetch-elsewhere, fetch-there, text-with_words}

-- `ebreak` for each address
abbrev ebreak_at : Option ℕ → Option Saved
ebreak_at None = None
ebreak_at (Some addr) = Some (record { addr = addr; word = ebreak_word })

abbrev ebreaks : List (Option ℕ) → List (Option Saved)
ebreaks xs = map ebreak_at xs

addresses-ebreaks : (xs : List (Option ℕ)) → addresses (ebreaks xs) ≡ xs
addresses-ebreaks [] = refl
addresses-ebreaks (None ∷ xs) = ap (λ x. None ∷ x) (addresses-ebreaks xs)
addresses-ebreaks (Some a ∷ xs) = ap (λ x. Some a ∷ x) (addresses-ebreaks xs)

with_ebreaks-words : (m : Memory) (xs : List (Option ℕ)) → with_ebreaks m xs ≡ with_words m (ebreaks xs)
with_ebreaks-words m [] = refl
with_ebreaks-words m (None ∷ xs) = with_ebreaks-words m xs
with_ebreaks-words m (Some a ∷ xs) = ap (λ x. after_store x a 4 ebreak_word) (with_ebreaks-words m xs)

-- a write apart from the addresses
ebreaks-after : (m : Memory) (xs : List (Option ℕ)) (at size value : ℕ) → AllApart at size xs → with_ebreaks (after_store m at size value) xs ≡ after_store (with_ebreaks m xs) at size value
ebreaks-after m xs at size value apart =
    let apart' : AllApart at size (addresses (ebreaks xs)) = rw (addresses-ebreaks xs) apart in
    with_ebreaks-words (after_store m at size value) xs
    ∙ words-after_store m (ebreaks xs) at size value apart'
    ∙ ap (λ x. after_store x at size value) (sym (with_ebreaks-words m xs))

-- the kept bytes are those of raw memory
pub raw-kept : (raw : Memory) (ws : List (Option Saved)) → AreText raw (addresses ws) → AreDistinct (addresses ws) → HoldEbreaks raw ws → with_ebreaks (with_words raw ws) (addresses ws) ≡ raw
raw-kept raw [] t d h = refl
raw-kept raw (None ∷ ws) t d h = raw-kept raw ws t d h
raw-kept raw (Some s ∷ ws) t d h =
    let apart : AllApart s.addr 4 (addresses ws) = apart-addresses raw (addresses ws) s.addr (aligned raw s.addr t.0) t.1 d.0 in
    ap (λ x. after_store x s.addr 4 ebreak_word) (ebreaks-after (with_words raw ws) (addresses ws) s.addr 4 s.word apart ∙ ap (λ x. after_store x s.addr 4 s.word) (raw-kept raw ws t.1 d.1 h.2))
    ∙ last_remains raw s.addr 4 s.word ebreak_word
    ∙ h.0

-- what is planted in the kept memory
pub planted-kept : (raw : Memory) (places : List (Option Saved)) (step : Option Saved) → IsKept raw (step ∷ places) → raw_memory (planted_memory raw places step) ≡ raw
unfolding raw_memory
planted-kept raw places step kept = raw-kept raw (step ∷ places) kept.text kept.distinct kept.ebreaks

found_ebreak : (xs : List (Option ℕ)) (at : ℕ) → has_address xs at ≡ true → saved_word (ebreaks xs) at ≡ Some ebreak_word
found_ebreak [] at e = absurd (false≢true e)
found_ebreak (None ∷ xs) at e = found_ebreak xs at e
found_ebreak (Some a ∷ xs) at e = by_address (eqb a at) e (λ f. found_ebreak xs at f)
  where
    by_address : (b : Bool) → (b || has_address xs at) ≡ true → (has_address xs at ≡ true → saved_word (ebreaks xs) at ≡ Some ebreak_word) → cond b (Some ebreak_word) (saved_word (ebreaks xs) at) ≡ Some ebreak_word
    by_address true f rest = refl
    by_address false f rest = rest f

no_ebreak : (xs : List (Option ℕ)) (at : ℕ) → has_address xs at ≡ false → saved_word (ebreaks xs) at ≡ None
no_ebreak [] at e = refl
no_ebreak (None ∷ xs) at e = no_ebreak xs at e
no_ebreak (Some a ∷ xs) at e = by_address (eqb a at) e (λ f. no_ebreak xs at f)
  where
    by_address : (b : Bool) → (b || has_address xs at) ≡ false → (has_address xs at ≡ false → saved_word (ebreaks xs) at ≡ None) → cond b (Some ebreak_word) (saved_word (ebreaks xs) at) ≡ None
    by_address true f rest = absurd (false≢true (sym f))
    by_address false f rest = rest f

module _ (p : PlantedMemory) (is : IsPlanted p) where
  raw-words : raw_memory p ≡ with_words p.memory (ebreaks (planted_addresses p))
  unfolding raw_memory
  raw-words = with_ebreaks-words p.memory (planted_addresses p)

  raw-after : (m : Memory) → raw_memory (record p { memory = m }) ≡ with_words m (ebreaks (planted_addresses p))
  unfolding raw_memory
  raw-after m = with_ebreaks-words m (planted_addresses p)

  text : AreText p.memory (addresses (ebreaks (planted_addresses p)))
  text = rw (addresses-ebreaks (planted_addresses p)) is.text

  pub raw_faults-in : (access : Access) (at size : ℕ) → access_fault (raw_memory p) access at size ≡ access_fault p.memory access at size
  raw_faults-in access at size = ap (λ m. access_fault m access at size) raw-words ∙ faults-with_words p.memory (ebreaks (planted_addresses p)) text access at size

  pub raw_fetches-in : (at : ℕ) → fetch_result (raw_memory p) at ≡ cond (is_planted p at) (Ok ebreak_word) (fetch_result p.memory at)
  raw_fetches-in at = ap (λ m. fetch_result m at) raw-words ∙ by_address (is_planted p at) refl
    where
      by_address : (b : Bool) → is_planted p at ≡ b → fetch_result (with_words p.memory (ebreaks (planted_addresses p))) at ≡ cond b (Ok ebreak_word) (fetch_result p.memory at)
      by_address true e = fetch-there p.memory (ebreaks (planted_addresses p)) at ebreak_word text (lit< tt) (found_ebreak (planted_addresses p) at e)
      by_address false e = fetch-elsewhere p.memory (ebreaks (planted_addresses p)) at text (rw (addresses-ebreaks (planted_addresses p)) e)

  pub raw_bytes-in : (at : ℕ) → byte_at (raw_memory p) at ≡ cond (is_planted p (at - at % 4)) (Some (byte_of ebreak_word (at % 4))) (byte_at p.memory at)
  raw_bytes-in at =
      ap (λ m. byte_at m at) raw-words
      ∙ byte_at-with_words p.memory (ebreaks (planted_addresses p)) at text
      ∙ by_address (is_planted p (at - at % 4)) refl
    where
      by_address : (b : Bool) → is_planted p (at - at % 4) ≡ b → byte_seen (saved_word (ebreaks (planted_addresses p)) (at - at % 4)) at (byte_at p.memory at) ≡ cond b (Some (byte_of ebreak_word (at % 4))) (byte_at p.memory at)
      by_address true e = ap (λ o. byte_seen o at (byte_at p.memory at)) (found_ebreak (planted_addresses p) (at - at % 4) e)
      by_address false e = ap (λ o. byte_seen o at (byte_at p.memory at)) (no_ebreak (planted_addresses p) (at - at % 4) e)

  pub raw_loads-in : (at width : ℕ) → load_result (raw_memory p) at width ≡ load_result p.memory at width
  unfolding load_result
  raw_loads-in at width =
      ap (λ o. unless_fault o (number_in (raw_memory p) at width)) (raw_faults-in Load at width) ∙ by_fault (access_fault p.memory Load at width) refl
    where
      by_fault : (o : Option Fault) → access_fault p.memory Load at width ≡ o → unless_fault o (number_in (raw_memory p) at width) ≡ unless_fault o (number_in p.memory at width)
      by_fault (Some fault) e = refl
      by_fault None e =
          ap Ok (ap (λ m. number_in m at width) raw-words
          ∙ number_in-with_words p.memory (ebreaks (planted_addresses p)) at width (apart-rights p.memory (addresses (ebreaks (planted_addresses p))) Load at width load≢fetch e text))

  pub raw_stores-in : (at width value : ℕ) → store_fault p.memory at width ≡ None → after_store (raw_memory p) at width value ≡ raw_memory (record p { memory = after_store p.memory at width value })
  raw_stores-in at width value e =
      ap (λ m. after_store m at width value) raw-words
      ∙ store-with_words p.memory (ebreaks (planted_addresses p)) text at width value e
      ∙ sym (raw-after (after_store p.memory at width value))

  pub raw_word_faults-in : (c : Context) (harts word : ℕ) → word_fault c harts (raw_memory p) word ≡ word_fault c harts p.memory word
  raw_word_faults-in c harts word = ap (λ m. word_fault c harts m word) raw-words ∙ word_fault-with_words p.memory (ebreaks (planted_addresses p)) text c harts word

  pub raw_execution-in : (cs : List Context) (h harts word : ℕ) → word_fault (context_of cs h) harts p.memory word ≡ None → (contexts_after cs (raw_memory p) h word ≡ contexts_after cs p.memory h word) × (memory_after (raw_memory p) (context_of cs h) word ≡ raw_memory (record p { memory = memory_after p.memory (context_of cs h) word }))
  raw_execution-in cs h harts word e = (
    ap (λ m. contexts_after cs m h word) raw-words ∙ contexts-with_words p.memory (ebreaks (planted_addresses p)) text cs h harts word e,
    ap (λ m. memory_after m (context_of cs h) word) raw-words
        ∙ memory-with_words p.memory (ebreaks (planted_addresses p)) text (context_of cs h) harts word e
        ∙ sym (raw-after (memory_after p.memory (context_of cs h) word)),
  )

-- what is kept is a planted memory
pub kept-planted : (raw : Memory) (places : List (Option Saved)) (step : Option Saved) → length places ≡ PLACES → IsKept raw (step ∷ places) → IsPlanted (planted_memory raw places step)
kept-planted raw places step count kept = record {
  places = length-map places address_of ∙ count;
  text = text-with_words raw (step ∷ places) (addresses (step ∷ places)) kept.text kept.text;
  distinct = kept.distinct;
}
