-- Places by their numbers, and masks of them.
use Rattle.std.proofs.Common.{◌≡◌, ℕ, zero, suc, ◌<◌, ◌≤◌, eqb, ◌||◌, Bool, true, false, cond, List, [], ◌∷◌, length, Option, Some, None, is_some, refl, sym, ap, ◌∙◌, ◌⊎◌, inl, inr, arith}
use Rattle.std.specs.Prelude.{slice_index_or, slice_set}
use Rattle.std.proofs.lemmas.Bool.{false≢true, eqb-true, cases_eq, cases_lt}
use Rattle.std.proofs.lemmas.List.{get_or-set_same, get_or-set_other, get_or_past, length-set}
use Rattle.mach_base.specs.Machine.{Place}
use Rattle.mach_base.specs.Masks.{has_bit, mask_with}
use Rattle.mach_base.proofs.Bits.{has_bit-zero, has_bit-with_same, has_bit-with_other}
use Rattle.kdb_bp.specs.Breaks.{place_at}
use Rattle.bus_plant.specs.Planted.{has_address, planted_mask}
use Rattle.plant_mach.specs.Machine.{mask_where, enabled_address, enabled_mask}

-- The mask of the first so many numbers that pass a test.

pub bit-past : (test : ℕ → Bool) (n k : ℕ) → n ≤ k → has_bit (mask_where test n) k ≡ false
bit-past test zero k h = has_bit-zero k
bit-past test (suc n) k h = by_test (test n) (bit-past test n k (omega arith))
  where
    by_test : (b : Bool) → has_bit (mask_where test n) k ≡ false → has_bit (cond b (mask_with (mask_where test n) n) (mask_where test n)) k ≡ false
    by_test true before = has_bit-with_other (mask_where test n) n k (λ e. omega arith) ∙ before
    by_test false before = before

pub bit-within : (test : ℕ → Bool) (n k : ℕ) → k < n → has_bit (mask_where test n) k ≡ test k
bit-within test zero k h = absurd (omega arith)
bit-within test (suc n) k h = by_number (cases_eq k n) (λ below. bit-within test n k below)
  where
    here : (b : Bool) → has_bit (cond b (mask_with (mask_where test n) n) (mask_where test n)) n ≡ b
    here true = has_bit-with_same (mask_where test n) n
    here false = bit-past test n n (omega arith)

    elsewhere : (b : Bool) → (k ≡ n → ⊥) → has_bit (cond b (mask_with (mask_where test n) n) (mask_where test n)) k ≡ has_bit (mask_where test n) k
    elsewhere true ne = has_bit-with_other (mask_where test n) n k ne
    elsewhere false ne = refl

    below_other : (k ≡ n → ⊥) → k < n
    below_other ne = elim (cases_lt k n) as (λ _. k < n) [ inl lt ↦ lt | inr ge ↦ absurd (ne (omega arith)) ]

    by_number : (k ≡ n) ⊎ (k ≡ n → ⊥) → (k < n → has_bit (mask_where test n) k ≡ test k) → has_bit (mask_where test (suc n)) k ≡ test k
    by_number (inl e) before = ap (has_bit (mask_where test (suc n))) e ∙ here (test n) ∙ ap test (sym e)
    by_number (inr ne) before = elsewhere (test n) ne ∙ before (below_other ne)

pub planted-where : (places : List (Option ℕ)) (n : ℕ) → planted_mask places n ≡ mask_where (λ k. is_some (slice_index_or places k None)) n
planted-where places zero = refl
planted-where places (suc n) = ap (λ m. cond (is_some (slice_index_or places n None)) (mask_with m n) m) (planted-where places n)

pub enabled-where : (places : List (Option Place)) (n : ℕ) → enabled_mask places n ≡ mask_where (λ k. is_some (enabled_address (place_at places k))) n
enabled-where places zero = refl
enabled-where places (suc n) = ap (λ m. cond (is_some (enabled_address (place_at places n))) (mask_with m n) m) (enabled-where places n)

-- whether a place is in the masks
pub planted-bit : (places : List (Option ℕ)) (n k : ℕ) → k < n → has_bit (planted_mask places n) k ≡ is_some (slice_index_or places k None)
planted-bit places n k lt = ap (λ m. has_bit m k) (planted-where places n) ∙ bit-within _ n k lt

pub enabled-bit : (places : List (Option Place)) (n k : ℕ) → k < n → has_bit (enabled_mask places n) k ≡ is_some (enabled_address (place_at places k))
enabled-bit places n k lt = ap (λ m. has_bit m k) (enabled-where places n) ∙ bit-within _ n k lt

not_some : (o : Option ℕ) → is_some o ≡ false → o ≡ None
not_some None e = refl
not_some (Some x) e = absurd (false≢true (sym e))

-- nothing is planted where the mask is empty
pub none_planted : (places : List (Option ℕ)) (n i : ℕ) → length places ≡ n → planted_mask places n ≡ 0 → slice_index_or places i None ≡ None
none_planted places n i count none = by_number (cases_lt i n)
  where
    by_number : (i < n) ⊎ (n ≤ i) → slice_index_or places i None ≡ None
    by_number (inl lt) = not_some _ (sym (planted-bit places n i lt) ∙ ap (λ m. has_bit m i) none ∙ has_bit-zero i)
    by_number (inr ge) = get_or_past places i None (omega arith)

-- Addresses.

-- the place that has an address
pub record IsAt (places : List (Option ℕ)) (addr : ℕ) : Type 0 where
  pub number : ℕ
  pub is : slice_index_or places number None ≡ Some addr

pub has_address-at : (places : List (Option ℕ)) (addr : ℕ) → has_address places addr ≡ true → IsAt places addr
has_address-at [] addr e = absurd (false≢true e)
has_address-at (None ∷ rest) addr e = let at = has_address-at rest addr e in record { number = suc at.number; is = at.is }
has_address-at (Some a ∷ rest) addr e = by_address (eqb a addr) refl e (λ f. has_address-at rest addr f)
  where
    by_address : (b : Bool) → eqb a addr ≡ b → (b || has_address rest addr) ≡ true → (has_address rest addr ≡ true → IsAt rest addr) → IsAt (Some a ∷ rest) addr
    by_address true is f goes_on = record { number = 0; is = ap Some (eqb-true a addr is) }
    by_address false is f goes_on = let at = goes_on f in record { number = suc at.number; is = at.is }

-- nothing at the address, where no place has it
pub no_address : (places : List (Option ℕ)) (addr : ℕ) → ((i : ℕ) → slice_index_or places i None ≡ Some addr → ⊥) → has_address places addr ≡ false
no_address places addr none = by_test (has_address places addr) refl
  where
    by_test : (b : Bool) → has_address places addr ≡ b → b ≡ false
    by_test false e = refl
    by_test true e = let at = has_address-at places addr e in absurd (none at.number at.is)

-- Places that are set.

-- what stands in another place stays, and in the place stands what was put there
pub set-cases : (places : List (Option ℕ)) (j i : ℕ) (x : Option ℕ) (addr : ℕ) → slice_index_or (slice_set places j x) i None ≡ Some addr → (x ≡ Some addr × (i ≡ j)) ⊎ (slice_index_or places i None ≡ Some addr)
set-cases places j i x addr e = by_number (cases_eq i j)
  where
    none≢some : None ≡ Some addr → ⊥
    none≢some f = cc

    by_length : (i ≡ j) → (j < length places) ⊎ (length places ≤ j) → (x ≡ Some addr × (i ≡ j)) ⊎ (slice_index_or places i None ≡ Some addr)
    by_length same (inl lt) = inl (sym (get_or-set_same places j x None lt) ∙ ap (λ n. slice_index_or (slice_set places j x) n None) (sym same) ∙ e, same)
    by_length same (inr ge) = absurd (none≢some (sym (get_or_past (slice_set places j x) i None (let long = length-set places j x in omega arith)) ∙ e))

    by_number : (i ≡ j) ⊎ (i ≡ j → ⊥) → (x ≡ Some addr × (i ≡ j)) ⊎ (slice_index_or places i None ≡ Some addr)
    by_number (inl same) = by_length same (cases_lt j (length places))
    by_number (inr ne) = inr (sym (get_or-set_other places j i x None ne) ∙ e)
