-- A function applied to one element of a list after the other, in place.
use Rattle.std.proofs.Common.{◌≡◌, ℕ, zero, suc, ◌<◌, ◌≤◌, List, [], ◌∷◌, ◌++◌, map, take, drop, length, slice_index_or, slice_set, refl, ap, sym, ◌∙◌, ◌+◌, arith}

-- the next element is as it was
pub next_as_before : {A : Type 0} (f : A → A) (xs : List A) (i : ℕ) (d : A) → slice_index_or (map f (take i xs) ++ drop i xs) i d ≡ slice_index_or xs i d
next_as_before f [] zero d = refl
next_as_before f [] (suc i) d = refl
next_as_before f (x ∷ xs) zero d = refl
next_as_before f (x ∷ xs) (suc i) d = next_as_before f xs i d

-- one element more is done
pub one_more : {A : Type 0} (f : A → A) (xs : List A) (i : ℕ) (d : A) → i < length xs → slice_set (map f (take i xs) ++ drop i xs) i (f (slice_index_or xs i d)) ≡ map f (take (suc i) xs) ++ drop (suc i) xs
one_more f [] i d lt = absurd (omega arith)
one_more f (x ∷ xs) zero d lt = refl
one_more f (x ∷ xs) (suc i) d lt = ap (λ ys. f x ∷ ys) (one_more f xs i d (omega arith))

-- all are done
pub all_done : {A : Type 0} (f : A → A) (xs : List A) (i : ℕ) → length xs ≤ i → map f (take i xs) ++ drop i xs ≡ map f xs
all_done f [] zero le = refl
all_done f [] (suc i) le = refl
all_done f (x ∷ xs) zero le = absurd (omega arith)
all_done f (x ∷ xs) (suc i) le = ap (λ ys. f x ∷ ys) (all_done f xs i (omega arith))

-- the next element, written into a list in which those before are done
pub write_next : {A : Type 0} (f : A → A) (xs ys : List A) (i : ℕ) (y d : A) → ys ≡ map f (take i xs) ++ drop i xs → y ≡ f (slice_index_or ys i d) → i < length xs → slice_set ys i y ≡ map f (take (i + 1) xs) ++ drop (i + 1) xs
write_next f xs ys i y d e g lt =
    let here : slice_index_or ys i d ≡ slice_index_or xs i d = ap (λ zs. slice_index_or zs i d) e ∙ next_as_before f xs i d in
    let more : i + 1 ≡ suc i = omega arith in
    ap (λ z. slice_set ys i z) (g ∙ ap f here) ∙ ap (λ zs. slice_set zs i (f (slice_index_or xs i d))) e ∙ one_more f xs i d lt ∙ ap (λ n. map f (take n xs) ++ drop n xs) (sym more)
