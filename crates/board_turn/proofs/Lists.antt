-- Lists read with a default, and by `get_elem?`.
use Rattle.std.proofs.Common.{◌≡◌, ℕ, suc, zero, ◌<◌, ◌≤◌, List, [], ◌∷◌, ◌++◌, length, get_or, set, refl, sym, ap, arith}
use mathlib.Core.Option.{some, some-injective, some-ne-none}
use lib.ListN.{get_elem?}

module _ {A : Type 0} where
  -- an element that is there
  pub record At (l : List A) (i : ℕ) (a d : A) : Type 0 where
    pub there : i < length l
    pub here : get_or l i d ≡ a

  pub at_get : (l : List A) (i : ℕ) (a d : A) → get_elem? l i ≡ some a → At l i a d
  at_get [] i a d e = absurd (some-ne-none a (sym e))
  at_get (x ∷ xs) zero a d e = record { there = omega arith; here = some-injective x a e }
  at_get (x ∷ xs) (suc i) a d e = let r = at_get xs i a d e in record { there = omega (arith, r.there); here = r.here }

  pub get_at : (l : List A) (i : ℕ) (d : A) → i < length l → get_elem? l i ≡ some (get_or l i d)
  get_at [] i d lt = absurd (omega arith)
  get_at (x ∷ xs) zero d lt = refl
  get_at (x ∷ xs) (suc i) d lt = get_at xs i d (omega arith)

  -- writing what stands there
  pub reload : (l : List A) (i : ℕ) (d : A) → i < length l → set l i (get_or l i d) ≡ l
  reload [] i d lt = absurd (omega arith)
  reload (x ∷ xs) zero d lt = refl
  reload (x ∷ xs) (suc i) d lt = ap (λ ys. x ∷ ys) (reload xs i d (omega arith))

  -- one more element
  pub snoc_old : (l : List A) (a d : A) (k : ℕ) → k < length l → get_or (l ++ a ∷ []) k d ≡ get_or l k d
  snoc_old [] a d k lt = absurd (omega arith)
  snoc_old (x ∷ xs) a d zero lt = refl
  snoc_old (x ∷ xs) a d (suc k) lt = snoc_old xs a d k (omega arith)

  pub snoc_new : (l : List A) (a d : A) → get_or (l ++ a ∷ []) (length l) d ≡ a
  snoc_new [] a d = refl
  snoc_new (x ∷ xs) a d = snoc_new xs a d

  pub snoc_past : (l : List A) (a d : A) (k : ℕ) → length l < k → get_or (l ++ a ∷ []) k d ≡ d
  snoc_past [] a d zero lt = absurd (omega arith)
  snoc_past [] a d (suc k) lt = refl
  snoc_past (x ∷ xs) a d zero lt = absurd (omega arith)
  snoc_past (x ∷ xs) a d (suc k) lt = snoc_past xs a d k (omega arith)

  pub past : (l : List A) (d : A) (k : ℕ) → length l ≤ k → get_or l k d ≡ d
  past [] d k le = refl
  past (x ∷ xs) d zero le = absurd (omega arith)
  past (x ∷ xs) d (suc k) le = past xs d k (omega arith)
