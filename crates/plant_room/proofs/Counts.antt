-- How many numbers pass a test.
use Rattle.std.proofs.Common.{◌≡◌, ◌≢◌, ℕ, zero, suc, ◌<◌, ◌≤◌, Bool, true, false, cond, List, length, Option, None, is_some, refl, sym, ap, ◌∙◌, ◌⊎◌, inl, inr, arith}
use Rattle.std.specs.Prelude.{slice_index_or, slice_set}
use Rattle.std.proofs.lemmas.Bool.{cases_eq, cases_lt}
use Rattle.std.proofs.lemmas.List.{get_or-set_same, get_or-set_other}
use Rattle.plant_room.specs.Room.{count_where}

pub count_alike : (f g : ℕ → Bool) (n : ℕ) → ((k : ℕ) → k < n → f k ≡ g k) → count_where f n ≡ count_where g n
count_alike f g zero same = refl
count_alike f g (suc n) same =
    ap (λ b. cond b (suc (count_where f n)) (count_where f n)) (same n (omega arith))
    ∙ ap (λ m. cond (g n) (suc m) m) (count_alike f g n (λ k lt. same k (omega arith)))

pub count_within : (f : ℕ → Bool) (n : ℕ) → count_where f n ≤ n
count_within f zero = omega arith
count_within f (suc n) = by_test (f n) (count_within f n)
  where
    by_test : (b : Bool) → count_where f n ≤ n → cond b (suc (count_where f n)) (count_where f n) ≤ suc n
    by_test true le = omega arith
    by_test false le = omega arith

pub count_none : (f : ℕ → Bool) (n : ℕ) → ((k : ℕ) → k < n → f k ≡ false) → count_where f n ≡ 0
count_none f zero none = refl
count_none f (suc n) none =
    ap (λ b. cond b (suc (count_where f n)) (count_where f n)) (none n (omega arith))
    ∙ count_none f n (λ k lt. none k (omega arith))

below_other : (i n : ℕ) → i < suc n → (n ≡ i → ⊥) → i < n
below_other i n lt ne = elim (cases_lt i n) as (λ _. i < n) [ inl low ↦ low | inr ge ↦ absurd (ne (omega arith)) ]

-- one number more passes
pub count_more : (f g : ℕ → Bool) (n i : ℕ) → i < n → f i ≡ false → g i ≡ true → ((k : ℕ) → k ≢ i → f k ≡ g k) → count_where g n ≡ suc (count_where f n)
count_more f g zero i lt off on same = absurd (omega arith)
count_more f g (suc n) i lt off on same = by_number (cases_eq n i) (λ below. count_more f g n i below off on same)
  where
    last : n ≡ i → count_where g (suc n) ≡ suc (count_where f (suc n))
    last e =
        ap (λ b. cond b (suc (count_where g n)) (count_where g n)) (ap g e ∙ on)
        ∙ ap suc (sym (count_alike f g n (λ k below. same k (λ eq. omega arith))))
        ∙ ap suc (sym (ap (λ b. cond b (suc (count_where f n)) (count_where f n)) (ap f e ∙ off)))

    by_bit : (b : Bool) → count_where g n ≡ suc (count_where f n) → cond b (suc (count_where g n)) (count_where g n) ≡ suc (cond b (suc (count_where f n)) (count_where f n))
    by_bit true before = ap suc before
    by_bit false before = before

    by_number : (n ≡ i) ⊎ (n ≡ i → ⊥) → (i < n → count_where g n ≡ suc (count_where f n)) → count_where g (suc n) ≡ suc (count_where f (suc n))
    by_number (inl e) before = last e
    by_number (inr ne) before =
        ap (λ b. cond b (suc (count_where g n)) (count_where g n)) (sym (same n ne)) ∙ by_bit (f n) (before (below_other i n lt ne))

-- at most one number more passes
pub count_at_most : (f g : ℕ → Bool) (n i : ℕ) → ((k : ℕ) → k ≢ i → f k ≡ g k) → count_where g n ≤ suc (count_where f n)
count_at_most f g zero i same = omega arith
count_at_most f g (suc n) i same = by_number (cases_eq n i) (count_at_most f g n i same)
  where
    by_bits : (a b : Bool) → count_where g n ≡ count_where f n → cond a (suc (count_where g n)) (count_where g n) ≤ suc (cond b (suc (count_where f n)) (count_where f n))
    by_bits true true e = omega arith
    by_bits true false e = omega arith
    by_bits false true e = omega arith
    by_bits false false e = omega arith

    by_bit : (a b : Bool) → b ≡ a → count_where g n ≤ suc (count_where f n) → cond a (suc (count_where g n)) (count_where g n) ≤ suc (cond b (suc (count_where f n)) (count_where f n))
    by_bit true true e le = omega arith
    by_bit true false e le = absurd (cc)
    by_bit false true e le = absurd (cc)
    by_bit false false e le = le

    by_number : (n ≡ i) ⊎ (n ≡ i → ⊥) → count_where g n ≤ suc (count_where f n) → count_where g (suc n) ≤ suc (count_where f (suc n))
    by_number (inl e) le = by_bits (g n) (f n) (sym (count_alike f g n (λ k below. same k (λ eq. omega arith))))
    by_number (inr ne) le = by_bit (g n) (f n) (same n ne) le

-- Lists in which one number is set.

pub flag_set : (calls : List Bool) (n i : ℕ) (x : Bool) → count_where (λ h. slice_index_or (slice_set calls i x) h false) n ≤ suc (count_where (λ h. slice_index_or calls h false) n)
flag_set calls n i x = count_at_most _ _ n i (λ k ne. sym (get_or-set_other calls i k x false ne))

pub flag_cleared : (calls : List Bool) (n i : ℕ) → i < n → length calls ≡ n → slice_index_or calls i false ≡ true → count_where (λ h. slice_index_or calls h false) n ≡ suc (count_where (λ h. slice_index_or (slice_set calls i false) h false) n)
flag_cleared calls n i lt count on = count_more _ _ n i lt (get_or-set_same calls i false false (omega arith)) on (λ k ne. get_or-set_other calls i k false false ne)

pub place_set : (places : List (Option ℕ)) (n i : ℕ) (x : Option ℕ) → i < n → length places ≡ n → is_some x ≡ true → slice_index_or places i None ≡ None → count_where (λ k. is_some (slice_index_or (slice_set places i x) k None)) n ≡ suc (count_where (λ k. is_some (slice_index_or places k None)) n)
place_set places n i x lt count some off = count_more _ _ n i lt (ap is_some off) (ap is_some (get_or-set_same places i x None (omega arith)) ∙ some) (λ k ne. ap is_some (sym (get_or-set_other places i k x None ne)))

pub place_cleared : (places : List (Option ℕ)) (n i : ℕ) → i < n → length places ≡ n → is_some (slice_index_or places i None) ≡ true → count_where (λ k. is_some (slice_index_or places k None)) n ≡ suc (count_where (λ k. is_some (slice_index_or (slice_set places i None) k None)) n)
place_cleared places n i lt count on = count_more _ _ n i lt (ap is_some (get_or-set_same places i None None (omega arith))) on (λ k ne. ap is_some (get_or-set_other places i k None None ne))
