-- A word that is planted in a free slot, and one that is pulled from its slot.
use Rattle.std.proofs.Common.{◌≡◌, ◌≢◌, ℕ, zero, suc, ◌<◌, ◌^◌, eqb, Bool, true, false, ◌||◌, List, [], ◌∷◌, length, slice_set, slice_index_or, map, Option, Some, None, refl, sym, ap, subst, ◌∙◌, arith}
use Rattle.std.proofs.lemmas.Bool.{false≢true, ne_eqb}
use Rattle.std.proofs.lemmas.List.{length-set, length-map}
use Rattle.mach_base.specs.Machine.{Memory}
use Rattle.mem_map.specs.Access.{access_fault, after_store}
use Rattle.mem_map.specs.Laws.{AreApart}
use Rattle.mem_map.specs.declared.rights.Access.TheVariants.{Fetch}
use Rattle.mem_map.proofs.Twice.{stores_commute, last_remains}
use Rattle.rv_table.specs.Rows.{ebreak_word}
use Rattle.bus_plant.specs.Planted.{with_ebreaks, has_address, AreText, AreDistinct}
use Rattle.bus_plant.specs.Saved.{address_of, addresses, with_words, HoldEbreaks, IsSaved, IsKept, AreKept, planted_memory}
use Rattle.bus_plant.specs.Planted.{PlantedMemory, planted_addresses, is_planted}
use Rattle.bus_plant.specs.declared.saved.Saved.{Saved}
use Rattle.bus_plant.proofs.WithWords.{AllApart, text-after_store, text-with_words, words-after_store, aligned, apart-addresses, or_false, other_address}

none≢some : {A : Type 0} (x : A) → None ≡ Some x → ⊥
none≢some x e = cc

-- the addresses of the slots after a write to one
pub addresses-set : (ws : List (Option Saved)) (j : ℕ) (x : Option Saved) → addresses (slice_set ws j x) ≡ slice_set (addresses ws) j (address_of x)
addresses-set [] j x = refl
addresses-set (w ∷ ws) zero x = refl
addresses-set (w ∷ ws) (suc j) x = ap (λ xs. address_of w ∷ xs) (addresses-set ws j x)

-- memory with one word more
with_words-set : (m : Memory) (ws : List (Option Saved)) (j : ℕ) (s : Saved) → j < length ws → slice_index_or ws j None ≡ None → AllApart s.addr 4 (addresses ws) → with_words m (slice_set ws j (Some s)) ≡ after_store (with_words m ws) s.addr 4 s.word
with_words-set m [] j s h free apart = absurd (omega arith)
with_words-set m (None ∷ ws) zero s h free apart = refl
with_words-set m (Some t ∷ ws) zero s h free apart = absurd (none≢some t (sym free))
with_words-set m (None ∷ ws) (suc j) s h free apart = with_words-set m ws j s (omega arith) free apart
with_words-set m (Some t ∷ ws) (suc j) s h free apart =
    ap (λ x. after_store x t.addr 4 t.word) (with_words-set m ws j s (omega arith) free apart.1)
    ∙ stores_commute (with_words m ws) s.addr 4 s.word t.addr 4 t.word (λ k i a b e. apart.0 i k b a (sym e))

-- memory with a word is that without it, and the word
with_words-cleared : (m : Memory) (ws : List (Option Saved)) (j : ℕ) (s : Saved) → j < length ws → slice_index_or ws j None ≡ Some s → AllApart s.addr 4 (addresses (slice_set ws j None)) → with_words m ws ≡ after_store (with_words m (slice_set ws j None)) s.addr 4 s.word
with_words-cleared m [] j s h there apart = absurd (omega arith)
with_words-cleared m (w ∷ ws) zero s h there apart = ap (λ x. with_words m (x ∷ ws)) there
with_words-cleared m (None ∷ ws) (suc j) s h there apart = with_words-cleared m ws j s (omega arith) there apart
with_words-cleared m (Some t ∷ ws) (suc j) s h there apart =
    ap (λ x. after_store x t.addr 4 t.word) (with_words-cleared m ws j s (omega arith) there apart.1)
    ∙ stores_commute (with_words m (slice_set ws j None)) s.addr 4 s.word t.addr 4 t.word (λ k i a b e. apart.0 i k b a (sym e))

-- words of text
pub text-set : (m : Memory) (xs : List (Option ℕ)) (j a : ℕ) → access_fault m Fetch a 4 ≡ None → AreText m xs → AreText m (slice_set xs j (Some a))
text-set m [] j a e t = t
text-set m (None ∷ xs) zero a e t = (e, t)
text-set m (Some b ∷ xs) zero a e t = (e, t.1)
text-set m (None ∷ xs) (suc j) a e t = text-set m xs j a e t
text-set m (Some b ∷ xs) (suc j) a e t = (t.0, text-set m xs j a e t.1)

pub text-cleared : (m : Memory) (xs : List (Option ℕ)) (j : ℕ) → AreText m xs → AreText m (slice_set xs j None)
text-cleared m [] j t = t
text-cleared m (None ∷ xs) zero t = t
text-cleared m (Some b ∷ xs) zero t = t.1
text-cleared m (None ∷ xs) (suc j) t = text-cleared m xs j t
text-cleared m (Some b ∷ xs) (suc j) t = (t.0, text-cleared m xs j t.1)

pub text-at : (m : Memory) (xs : List (Option ℕ)) (j a : ℕ) → slice_index_or xs j None ≡ Some a → AreText m xs → access_fault m Fetch a 4 ≡ None
text-at m [] j a e t = absurd (none≢some a e)
text-at m (None ∷ xs) zero a e t = absurd (none≢some a e)
text-at m (Some b ∷ xs) zero a e t = let same : b ≡ a = cc in rw (← same) t.0
text-at m (None ∷ xs) (suc j) a e t = text-at m xs j a e t
text-at m (Some b ∷ xs) (suc j) a e t = text-at m xs j a e t.1

-- different addresses
or_from : (a b : Bool) → a ≡ false → b ≡ false → (a || b) ≡ false
or_from a b p q = rw (p, q) refl

has_address-set : (xs : List (Option ℕ)) (j a b : ℕ) → eqb a b ≡ false → has_address xs b ≡ false → has_address (slice_set xs j (Some a)) b ≡ false
has_address-set [] j a b ne e = e
has_address-set (None ∷ xs) zero a b ne e = or_from _ _ ne e
has_address-set (Some c ∷ xs) zero a b ne e = or_from _ _ ne (or_false (eqb c b) (has_address xs b) e).1
has_address-set (None ∷ xs) (suc j) a b ne e = has_address-set xs j a b ne e
has_address-set (Some c ∷ xs) (suc j) a b ne e =
    let parts = or_false (eqb c b) (has_address xs b) e in
    or_from _ _ parts.0 (has_address-set xs j a b ne parts.1)

has_address-cleared : (xs : List (Option ℕ)) (j b : ℕ) → has_address xs b ≡ false → has_address (slice_set xs j None) b ≡ false
has_address-cleared [] j b e = e
has_address-cleared (None ∷ xs) zero b e = e
has_address-cleared (Some c ∷ xs) zero b e = (or_false (eqb c b) (has_address xs b) e).1
has_address-cleared (None ∷ xs) (suc j) b e = has_address-cleared xs j b e
has_address-cleared (Some c ∷ xs) (suc j) b e =
    let parts = or_false (eqb c b) (has_address xs b) e in
    or_from _ _ parts.0 (has_address-cleared xs j b parts.1)

has_address-at : (xs : List (Option ℕ)) (j a b : ℕ) → slice_index_or xs j None ≡ Some a → has_address xs b ≡ false → a ≢ b
has_address-at [] j a b there e = absurd (none≢some a there)
has_address-at (None ∷ xs) zero a b there e = absurd (none≢some a there)
has_address-at (Some c ∷ xs) zero a b there e = let same : c ≡ a = cc in rw (← same) (other_address c b (or_false (eqb c b) (has_address xs b) e).0)
has_address-at (None ∷ xs) (suc j) a b there e = has_address-at xs j a b there e
has_address-at (Some c ∷ xs) (suc j) a b there e = has_address-at xs j a b there (or_false (eqb c b) (has_address xs b) e).1

pub distinct-set : (xs : List (Option ℕ)) (j a : ℕ) → has_address xs a ≡ false → AreDistinct xs → AreDistinct (slice_set xs j (Some a))
distinct-set [] j a e d = d
distinct-set (None ∷ xs) zero a e d = (e, d)
distinct-set (Some b ∷ xs) zero a e d = ((or_false (eqb b a) (has_address xs a) e).1, d.1)
distinct-set (None ∷ xs) (suc j) a e d = distinct-set xs j a e d
distinct-set (Some b ∷ xs) (suc j) a e d =
    let parts = or_false (eqb b a) (has_address xs a) e in
    let ne : eqb a b ≡ false = ne_eqb a b (λ same. other_address b a parts.0 (sym same)) in
    (has_address-set xs j a b ne d.0, distinct-set xs j a parts.1 d.1)

pub distinct-cleared : (xs : List (Option ℕ)) (j : ℕ) → AreDistinct xs → AreDistinct (slice_set xs j None)
distinct-cleared [] j d = d
distinct-cleared (None ∷ xs) zero d = d
distinct-cleared (Some b ∷ xs) zero d = d.1
distinct-cleared (None ∷ xs) (suc j) d = distinct-cleared xs j d
distinct-cleared (Some b ∷ xs) (suc j) d = (has_address-cleared xs j b d.0, distinct-cleared xs j d.1)

-- an address is that of its slot alone
alone : (xs : List (Option ℕ)) (j a : ℕ) → slice_index_or xs j None ≡ Some a → AreDistinct xs → has_address (slice_set xs j None) a ≡ false
alone [] j a there d = refl
alone (None ∷ xs) zero a there d = absurd (none≢some a there)
alone (Some b ∷ xs) zero a there d = let same : b ≡ a = cc in rw (← same) d.0
alone (None ∷ xs) (suc j) a there d = alone xs j a there d
alone (Some b ∷ xs) (suc j) a there d =
    or_from _ _ (ne_eqb b a (λ same. has_address-at xs j a b there d.0 (sym same))) (alone xs j a there d.1)

-- what is planted stays through a write elsewhere
pub ebreaks-after_store : (m : Memory) (ws : List (Option Saved)) (at size value : ℕ) → AllApart at size (addresses ws) → HoldEbreaks m ws → HoldEbreaks (after_store m at size value) ws
ebreaks-after_store m [] at size value apart h = h
ebreaks-after_store m (None ∷ ws) at size value apart h = ebreaks-after_store m ws at size value apart h
ebreaks-after_store m (Some s ∷ ws) at size value apart h = (
  stores_commute m at size value s.addr 4 ebreak_word (λ k i a b e. apart.0 i k b a (sym e)) ∙ ap (λ x. after_store x at size value) h.0,
  h.1,
  ebreaks-after_store m ws at size value apart.1 h.2,
)

ebreaks-set : (m : Memory) (ws : List (Option Saved)) (j : ℕ) (s : Saved) → after_store m s.addr 4 ebreak_word ≡ m → s.word < 2 ^ 32 → HoldEbreaks m ws → HoldEbreaks m (slice_set ws j (Some s))
ebreaks-set m [] j s e small h = h
ebreaks-set m (None ∷ ws) zero s e small h = (e, small, h)
ebreaks-set m (Some t ∷ ws) zero s e small h = (e, small, h.2)
ebreaks-set m (None ∷ ws) (suc j) s e small h = ebreaks-set m ws j s e small h
ebreaks-set m (Some t ∷ ws) (suc j) s e small h = (h.0, h.1, ebreaks-set m ws j s e small h.2)

ebreaks-cleared : (m : Memory) (ws : List (Option Saved)) (j : ℕ) → HoldEbreaks m ws → HoldEbreaks m (slice_set ws j None)
ebreaks-cleared m [] j h = h
ebreaks-cleared m (None ∷ ws) zero h = h
ebreaks-cleared m (Some t ∷ ws) zero h = h.2
ebreaks-cleared m (None ∷ ws) (suc j) h = ebreaks-cleared m ws j h
ebreaks-cleared m (Some t ∷ ws) (suc j) h = (h.0, h.1, ebreaks-cleared m ws j h.2)

module _ (raw : Memory) (ws : List (Option Saved)) (j : ℕ) (s : Saved) (kept : IsKept raw ws) (within : j < length ws) where
  pub planted-kept : (after : Memory) → IsSaved raw s after → has_address (addresses ws) s.addr ≡ false → IsKept after (slice_set ws j (Some s))
  planted-kept after saved other =
      let apart : AllApart s.addr 4 (addresses ws) = apart-addresses raw (addresses ws) s.addr (aligned raw s.addr saved.text) kept.text other in
      let text : AreText raw (slice_set (addresses ws) j (Some s.addr)) = text-set raw (addresses ws) j s.addr saved.text kept.text in
      let next : Memory = after_store raw s.addr 4 ebreak_word in
      let again : after_store next s.addr 4 ebreak_word ≡ next = last_remains raw s.addr 4 ebreak_word ebreak_word in
      rw saved.written (record {
        text = rw (addresses-set ws j (Some s)) (text-after_store raw (slice_set (addresses ws) j (Some s.addr)) s.addr ebreak_word saved.text text);
        distinct = rw (addresses-set ws j (Some s)) (distinct-set (addresses ws) j s.addr other kept.distinct);
        ebreaks = ebreaks-set next ws j s again saved.small (ebreaks-after_store raw ws s.addr 4 ebreak_word apart kept.ebreaks);
      })

  pub planted-memory : (after : Memory) → IsSaved raw s after → slice_index_or ws j None ≡ None → has_address (addresses ws) s.addr ≡ false → with_words after (slice_set ws j (Some s)) ≡ with_words raw ws
  planted-memory after saved free other =
      let apart : AllApart s.addr 4 (addresses ws) = apart-addresses raw (addresses ws) s.addr (aligned raw s.addr saved.text) kept.text other in
      ap (λ m. with_words m (slice_set ws j (Some s))) saved.written
      ∙ with_words-set (after_store raw s.addr 4 ebreak_word) ws j s within free apart
      ∙ ap (λ x. after_store x s.addr 4 s.word) (words-after_store raw ws s.addr 4 ebreak_word apart)
      ∙ last_remains (with_words raw ws) s.addr 4 ebreak_word s.word
      ∙ sym (words-after_store raw ws s.addr 4 s.word apart)
      ∙ ap (λ m. with_words m ws) saved.before

  address_here : slice_index_or ws j None ≡ Some s → slice_index_or (addresses ws) j None ≡ Some s.addr
  address_here there = at ws j s there
    where
      at : (ws : List (Option Saved)) (j : ℕ) (s : Saved) → slice_index_or ws j None ≡ Some s → slice_index_or (addresses ws) j None ≡ Some s.addr
      at [] j s there = absurd (none≢some s there)
      at (w ∷ ws) zero s there = ap address_of there
      at (w ∷ ws) (suc j) s there = at ws j s there

  pub pulled-text : slice_index_or ws j None ≡ Some s → access_fault raw Fetch s.addr 4 ≡ None
  pulled-text there = text-at raw (addresses ws) j s.addr (address_here there) kept.text

  apart-pulled : slice_index_or ws j None ≡ Some s → AllApart s.addr 4 (addresses (slice_set ws j None))
  apart-pulled there =
      rw (addresses-set ws j None) (apart-addresses raw (slice_set (addresses ws) j None) s.addr (aligned raw s.addr (pulled-text there)) (text-cleared raw (addresses ws) j kept.text) (alone (addresses ws) j s.addr (address_here there) kept.distinct))

  pub pulled-kept : (after : Memory) → slice_index_or ws j None ≡ Some s → after ≡ after_store raw s.addr 4 s.word → IsKept after (slice_set ws j None)
  pulled-kept after there written =
      rw written (record {
        text = rw (addresses-set ws j None) (text-after_store raw (slice_set (addresses ws) j None) s.addr s.word (pulled-text there) (text-cleared raw (addresses ws) j kept.text));
        distinct = rw (addresses-set ws j None) (distinct-cleared (addresses ws) j kept.distinct);
        ebreaks = ebreaks-after_store raw (slice_set ws j None) s.addr 4 s.word (apart-pulled there) (ebreaks-cleared raw ws j kept.ebreaks);
      })

  pub pulled-memory : (after : Memory) → slice_index_or ws j None ≡ Some s → after ≡ after_store raw s.addr 4 s.word → with_words after (slice_set ws j None) ≡ with_words raw ws
  pulled-memory after there written =
      ap (λ m. with_words m (slice_set ws j None)) written
      ∙ words-after_store raw (slice_set ws j None) s.addr 4 s.word (apart-pulled there)
      ∙ sym (with_words-cleared raw ws j s within there (apart-pulled there))

-- a place that is planted
module _ (raw after : Memory) (places : List (Option Saved)) (step : Option Saved) (i : ℕ) (s : Saved) (are : AreKept raw places step) (within : i < length places) where
  further : suc i < length (step ∷ places)
  further = omega arith

  pub plant-kept : IsSaved raw s after → has_address (addresses (step ∷ places)) s.addr ≡ false → AreKept after (slice_set places i (Some s)) step
  plant-kept saved other = record {
    count = length-set places i (Some s) ∙ are.count;
    kept = planted-kept raw (step ∷ places) (suc i) s are.kept further after saved other;
  }

  pub plant-view : IsSaved raw s after → slice_index_or places i None ≡ None → has_address (addresses (step ∷ places)) s.addr ≡ false → planted_memory after (slice_set places i (Some s)) step ≡ record (planted_memory raw places step) { places = slice_set (addresses places) i (Some s.addr) }
  plant-view saved free other =
      let memory = planted-memory raw (step ∷ places) (suc i) s are.kept further after saved free other in
      let same = addresses-set places i (Some s) in
      λ k. record { memory = memory k; places = same k; step = address_of step }

  pub pull-text : slice_index_or places i None ≡ Some s → access_fault raw Fetch s.addr 4 ≡ None
  pull-text there = pulled-text raw (step ∷ places) (suc i) s are.kept further there

  pub pull-kept : slice_index_or places i None ≡ Some s → after ≡ after_store raw s.addr 4 s.word → AreKept after (slice_set places i None) step
  pull-kept there written = record {
    count = length-set places i None ∙ are.count;
    kept = pulled-kept raw (step ∷ places) (suc i) s are.kept further after there written;
  }

  pub pull-view : slice_index_or places i None ≡ Some s → after ≡ after_store raw s.addr 4 s.word → planted_memory after (slice_set places i None) step ≡ record (planted_memory raw places step) { places = slice_set (addresses places) i None }
  pull-view there written =
      let memory = pulled-memory raw (step ∷ places) (suc i) s are.kept further after there written in
      let same = addresses-set places i None in
      λ k. record { memory = memory k; places = same k; step = address_of step }

-- the step word
module _ (raw after : Memory) (places : List (Option Saved)) (s : Saved) where
  pub plant_step-kept : AreKept raw places None → IsSaved raw s after → has_address (addresses (None ∷ places)) s.addr ≡ false → AreKept after places (Some s)
  plant_step-kept are saved other = record { count = are.count; kept = planted-kept raw (None ∷ places) 0 s are.kept (omega arith) after saved other }

  pub plant_step-view : AreKept raw places None → IsSaved raw s after → has_address (addresses (None ∷ places)) s.addr ≡ false → planted_memory after places (Some s) ≡ record (planted_memory raw places None) { step = Some s.addr }
  plant_step-view are saved other =
      let memory = planted-memory raw (None ∷ places) 0 s are.kept (omega arith) after saved refl other in
      λ k. record { memory = memory k; places = addresses places; step = Some s.addr }

  pub pull_step-kept : AreKept raw places (Some s) → after ≡ after_store raw s.addr 4 s.word → AreKept after places None
  pull_step-kept are written = record { count = are.count; kept = pulled-kept raw (Some s ∷ places) 0 s are.kept (omega arith) after refl written }

  pub pull_step-view : AreKept raw places (Some s) → after ≡ after_store raw s.addr 4 s.word → planted_memory after places None ≡ record (planted_memory raw places (Some s)) { step = None }
  pull_step-view are written =
      let memory = pulled-memory raw (Some s ∷ places) 0 s are.kept (omega arith) after refl written in
      λ k. record { memory = memory k; places = addresses places; step = None }

-- a slot by its address, and by its word
pub free-slot : (places : List (Option Saved)) (i : ℕ) → slice_index_or (addresses places) i None ≡ None → slice_index_or places i None ≡ None
free-slot [] i e = refl
free-slot (None ∷ ws) zero e = refl
free-slot (Some s ∷ ws) zero e = absurd (none≢some s.addr (sym e))
free-slot (w ∷ ws) (suc i) e = free-slot ws i e

pub free-step : (step : Option Saved) → address_of step ≡ None → step ≡ None
free-step None e = refl
free-step (Some s) e = absurd (none≢some s.addr (sym e))

pub slot-there : (places : List (Option Saved)) (i j : ℕ) (d : Option Saved) (s : Saved) → j ≡ i → i < length places → slice_index_or places j d ≡ Some s → slice_index_or places i None ≡ Some s
slot-there [] i j d s e h there = absurd (omega arith)
slot-there (w ∷ ws) zero zero d s e h there = there
slot-there (w ∷ ws) zero (suc j) d s e h there = absurd (omega arith)
slot-there (w ∷ ws) (suc i) zero d s e h there = absurd (omega arith)
slot-there (w ∷ ws) (suc i) (suc j) d s e h there = slot-there ws i j d s (omega arith) (omega arith) there

pub within-places : (raw : Memory) (places : List (Option Saved)) (step : Option Saved) (p : PlantedMemory) (i : ℕ) → planted_memory raw places step ≡ p → i < length p.places → i < length places
within-places raw places step p i e h =
    let same : length p.places ≡ length places = ap (λ (q : PlantedMemory). length q.places) (sym e) ∙ length-map places address_of in
    omega arith

-- where nothing is planted at an address no slot has it
pub unplanted-slots : (raw : Memory) (places : List (Option Saved)) (step : Option Saved) (p : PlantedMemory) (addr at : ℕ) → planted_memory raw places step ≡ p → at ≡ addr → is_planted p addr ≡ false → has_address (addresses (step ∷ places)) at ≡ false
unplanted-slots raw places step p addr at e same h =
    ap (λ a. has_address (addresses (step ∷ places)) a) same ∙ ap (λ (q : PlantedMemory). has_address (planted_addresses q) addr) e ∙ h

-- what is planted at a place that is free, and what is pulled from it, by the planted memory that is seen
module _ (raw after : Memory) (places : List (Option Saved)) (step : Option Saved) (p : PlantedMemory) (i : ℕ) (s : Saved) (are : AreKept raw places step) (seen : planted_memory raw places step ≡ p) (place : i < length p.places) where
  pub place-kept : (addr : ℕ) → is_planted p addr ≡ false → s.addr ≡ addr → IsSaved raw s after → AreKept after (slice_set places i (Some s)) step
  place-kept addr unplanted at saved =
      plant-kept raw after places step i s are (within-places raw places step p i seen place) saved (unplanted-slots raw places step p addr s.addr seen at unplanted)

  pub place-view : (addr : ℕ) → is_planted p addr ≡ false → s.addr ≡ addr → IsSaved raw s after → slice_index_or p.places i None ≡ None → planted_memory after (slice_set places i (Some s)) step ≡ record p { places = slice_set p.places i (Some addr) }
  place-view addr unplanted at saved free =
      let empty = free-slot places i (ap (λ (q : PlantedMemory). slice_index_or q.places i None) seen ∙ free) in
      plant-view raw after places step i s are (within-places raw places step p i seen place) saved empty (unplanted-slots raw places step p addr s.addr seen at unplanted)
      ∙ ap (λ a. record (planted_memory raw places step) { places = slice_set (addresses places) i (Some a) }) at
      ∙ ap (λ (q : PlantedMemory). record q { places = slice_set q.places i (Some addr) }) seen

-- the step word that is planted where there is none
module _ (raw after : Memory) (places : List (Option Saved)) (step : Option Saved) (p : PlantedMemory) (s : Saved) (are : AreKept raw places step) (seen : planted_memory raw places step ≡ p) (free : p.step ≡ None) (addr : ℕ) (unplanted : is_planted p addr ≡ false) (at : s.addr ≡ addr) (saved : IsSaved raw s after) where
  no_step : step ≡ None
  no_step = free-step step (ap (λ (q : PlantedMemory). q.step) seen ∙ free)

  are_places : AreKept raw places None
  are_places = subst (λ w. AreKept raw places w) no_step are

  other_places : has_address (addresses (None ∷ places)) s.addr ≡ false
  other_places = subst (λ w. has_address (addresses (w ∷ places)) s.addr ≡ false) no_step (unplanted-slots raw places step p addr s.addr seen at unplanted)

  pub step-kept : AreKept after places (Some s)
  step-kept = plant_step-kept raw after places s are_places saved other_places

  pub step-view : planted_memory after places (Some s) ≡ record p { step = Some addr }
  step-view =
      plant_step-view raw after places s are_places saved other_places
      ∙ ap (λ w. record (planted_memory raw places w) { step = Some s.addr }) (sym no_step)
      ∙ ap (λ a. record (planted_memory raw places step) { step = Some a }) at
      ∙ ap (λ (q : PlantedMemory). record q { step = Some addr }) seen

-- what is pulled from a place, by its number as an index
module _ (raw : Memory) (places : List (Option Saved)) (step : Option Saved) (p : PlantedMemory) (i j : ℕ) (s : Saved) (are : AreKept raw places step) (seen : planted_memory raw places step ≡ p) (place : i < length p.places) (same : j ≡ i) (here : slice_index_or places j None ≡ Some s) where
  is_within : i < length places
  is_within = within-places raw places step p i seen place

  is_there : slice_index_or places i None ≡ Some s
  is_there = slot-there places i j None s same is_within here

  pub place-text : access_fault raw Fetch s.addr 4 ≡ None
  place-text = pull-text raw raw places step i s are is_within is_there

  pub pulled_place-kept : (after : Memory) → after ≡ after_store raw s.addr 4 s.word → AreKept after (slice_set places i None) step
  pulled_place-kept after written = pull-kept raw after places step i s are is_within is_there written

  pub pulled_place-view : (after : Memory) → after ≡ after_store raw s.addr 4 s.word → planted_memory after (slice_set places i None) step ≡ record p { places = slice_set p.places i None }
  pulled_place-view after written =
      pull-view raw after places step i s are is_within is_there written
      ∙ ap (λ (q : PlantedMemory). record q { places = slice_set q.places i None }) seen
