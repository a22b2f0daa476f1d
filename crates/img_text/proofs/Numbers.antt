-- The numbers of a line, read one by one.
use Rattle.std.proofs.Common.{◌≡◌, ℕ, List, [], ◌∷◌, ◌++◌, Result, Ok, Err, refl, sym, ap, ◌∙◌, append_assoc}
use Rattle.img_text.specs.declared.fault.Why.{Why}
use Rattle.mach_base.specs.Sequence.{◌>>=◌}
use Rattle.img_text.specs.Directives.{number_up_to, each_number}

-- what reading gives, after the numbers in front
abbrev pub prepended : List ℕ → Result (List ℕ) Why → Result (List ℕ) Why
prepended front (Ok ns) = Ok (front ++ ns)
prepended front (Err why) = Err why

append_nil : (xs : List ℕ) → xs ++ [] ≡ xs
append_nil [] = refl
append_nil (x ∷ xs) = ap (λ ys. x ∷ ys) (append_nil xs)

-- nothing is left
pub numbers_end : (largest : ℕ) (front : List ℕ) (words : List (List ℕ)) (whole : Result (List ℕ) Why) → words ≡ [] → whole ≡ prepended front (each_number largest words) → whole ≡ Ok front
unfolding each_number
numbers_end largest front words whole none told = told ∙ (rw none (ap (λ ns. Ok ns) (append_nil front)))

-- one more number
pub numbers_more : (largest n : ℕ) (front : List ℕ) (words : List (List ℕ)) (word : List ℕ) (ws : List (List ℕ)) (whole : Result (List ℕ) Why) → words ≡ word ∷ ws → Ok n ≡ number_up_to largest word → whole ≡ prepended front (each_number largest words) → whole ≡ prepended (front ++ n ∷ []) (each_number largest ws)
unfolding each_number
numbers_more largest n front words word ws whole split number told = told ∙ (rw (split, ← number) (step (each_number largest ws)))
  where
    step : (r : Result (List ℕ) Why) → prepended front (r >>= λ ns. Ok (n ∷ ns)) ≡ prepended (front ++ n ∷ []) r
    step (Ok ns) = ap (λ xs. Ok xs) (sym (append_assoc front (n ∷ []) ns))
    step (Err why) = refl

-- a word that is no number
pub numbers_fault : (largest : ℕ) (why : Why) (front : List ℕ) (words : List (List ℕ)) (word : List ℕ) (ws : List (List ℕ)) (whole : Result (List ℕ) Why) → words ≡ word ∷ ws → Err why ≡ number_up_to largest word → whole ≡ prepended front (each_number largest words) → whole ≡ Err why
unfolding each_number
numbers_fault largest why front words word ws whole split number told = told ∙ (rw (split, ← number) refl)
