-- The harts counted one further, and those that have no start.
use Rattle.std.proofs.Common.{◌≡◌, ℕ, zero, suc, ◌+◌, ◌≤◌, List, length, Option, None, [], ◌∷◌, ◌++◌, map, ap, sym, ◌∙◌, arith}
use Rattle.std.specs.List.{range_with_len}
use Rattle.std.specs.Prelude.{slice_index_or}
use Rattle.std.proofs.lemmas.List.{get_or_past}

one_from : {A : Type 0} (f : ℕ → A) (a n : ℕ) → map f (range_with_len a (suc n)) ≡ map f (range_with_len a n) ++ f (a + n) ∷ []
one_from f a zero = let same : a + 0 ≡ a = omega arith in ap (λ k. f k ∷ []) (sym same)
one_from f a (suc n) = let same : (a + 1) + n ≡ a + suc n = omega arith in ap (λ ys. f a ∷ ys) (one_from f (a + 1) n ∙ ap (λ k. map f (range_with_len (a + 1) n) ++ f k ∷ []) same)

-- the values for one hart more
pub one_hart_more : {A : Type 0} (f : ℕ → A) (n : ℕ) → map f (range_with_len 0 (n + 1)) ≡ map f (range_with_len 0 n) ++ f n ∷ []
one_hart_more f n =
    let more : n + 1 ≡ suc n = omega arith in
    let here : 0 + n ≡ n = omega arith in
    ap (λ k. map f (range_with_len 0 k)) more ∙ one_from f 0 n ∙ ap (λ k. map f (range_with_len 0 n) ++ f k ∷ []) here

-- no hart past all starts has one
pub start_past : (starts : List (Option ℕ)) (h : ℕ) → length starts ≤ h → slice_index_or starts h None ≡ None
start_past starts h past = get_or_past starts h None past
