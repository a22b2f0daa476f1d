-- Counts of failed calls grow, and rise where a call fails.
use Rattle.std.proofs.Common.{◌≡◌, ℕ, zero, suc, ◌+◌, ◌<◌, ◌≤◌, ◌⊎◌, Bool, true, false, cond, List, ap, inl, inr, arith, min, nat_lt, eqb}
use Rattle.std.specs.List.{list_any}
use Rattle.std.proofs.lemmas.Bool.{cases_lt}
use Rattle.io_edge.specs.Memory.{failing_before}

-- a call adds one at most
at_most_one : (b : Bool) → cond b 1 0 ≤ 1
at_most_one true = omega arith
at_most_one false = omega arith

one_if : (b : Bool) → b ≡ true → ◌≡◌ {A = ℕ} (cond b 1 0) 1
one_if b h = ap (λ (x : Bool). cond {A = ℕ} x 1 0) h

pub failing_before-le : (failing : List ℕ) (n : ℕ) → failing_before failing n ≤ n
failing_before-le failing zero = omega arith
failing_before-le failing (suc n) =
    let h = failing_before-le failing n in
    let one = at_most_one (list_any (λ k. eqb k n) failing) in
    omega arith

-- the count of the failed calls, with the last value of a counter as a variable
abbrev pub count_at : ℕ → List ℕ → ℕ → ℕ
count_at top failing made = cond (nat_lt made top) (failing_before failing made) top

abbrev pub next : ℕ → ℕ → ℕ
next top made = min (made + 1) top

pub lt-true : (a b : ℕ) → a < b → nat_lt a b ≡ true
lt-true a b h = grind arith

pub lt-false : (a b : ℕ) → b ≤ a → nat_lt a b ≡ false
lt-false a b h = grind arith

count_at-below : (top : ℕ) (failing : List ℕ) (made : ℕ) → made < top → count_at top failing made ≡ failing_before failing made
count_at-below top failing made h = ap (λ b. cond b (failing_before failing made) top) (lt-true made top h)

count_at-above : (top : ℕ) (failing : List ℕ) (made : ℕ) → top ≤ made → count_at top failing made ≡ top
count_at-above top failing made h = ap (λ b. cond b (failing_before failing made) top) (lt-false made top h)

-- no count is above the last value
pub count_at-le : (top : ℕ) (failing : List ℕ) (made : ℕ) → count_at top failing made ≤ top
count_at-le top failing made =
    elim (cases_lt made top) [
      | inl h ↦ let e = count_at-below top failing made h in let le = failing_before-le failing made in omega arith
      | inr h ↦ let e = count_at-above top failing made h in omega arith
    ]

-- one call later, before the end of the counter
count_at-next : (top : ℕ) (failing : List ℕ) (made : ℕ) → made + 1 < top → count_at top failing (next top made) ≡ failing_before failing made + cond (list_any (λ k. eqb k made) failing) 1 0
count_at-next top failing made h =
    let e : next top made ≡ suc made = omega arith in
    let lt : suc made < top = omega arith in
    rw e (count_at-below top failing (suc made) lt)

-- one call later, at the end of the counter
count_at-last : (top : ℕ) (failing : List ℕ) (made : ℕ) → top ≤ made + 1 → count_at top failing (next top made) ≡ top
count_at-last top failing made h =
    let le : top ≤ next top made = omega arith in
    count_at-above top failing (next top made) le

-- the count doesn't fall
pub count_at-grows : (top : ℕ) (failing : List ℕ) (made : ℕ) → count_at top failing made ≤ count_at top failing (next top made)
count_at-grows top failing made =
    elim (cases_lt (made + 1) top) [
      | inl h ↦
          let lt : made < top = omega arith in
          let now = count_at-below top failing made lt in
          let later = count_at-next top failing made h in
          omega arith
      | inr h ↦
          let le = count_at-le top failing made in
          let later = count_at-last top failing made h in
          omega arith
    ]

-- it has risen after a call that fails
pub count_at-rises : (top : ℕ) (failing : List ℕ) (made : ℕ) → list_any (λ k. eqb k made) failing ≡ true → (count_at top failing made < count_at top failing (next top made)) ⊎ (count_at top failing (next top made) ≡ top)
count_at-rises top failing made fails =
    elim (cases_lt (made + 1) top) [
      | inl h ↦
          let lt : made < top = omega arith in
          let now = count_at-below top failing made lt in
          let later = count_at-next top failing made h in
          let one = one_if (list_any (λ k. eqb k made) failing) fails in
          inl (omega arith)
      | inr h ↦ inr (count_at-last top failing made h)
    ]

-- a capped sum rises where its first part does
pub capped-rises : (x y m top : ℕ) → (x < y) ⊎ (y ≡ top) → (min (x + m) top < min (y + m) top) ⊎ (min (y + m) top ≡ top)
capped-rises x y m top (inl h) =
    elim (cases_lt (x + m) top) [ inl lt ↦ inl (omega arith) | inr le ↦ inr (omega arith) ]
capped-rises x y m top (inr e) = inr (omega arith)

-- and where its second part is counted
pub capped-counted : (x y m top : ℕ) → x ≤ y → (min (x + m) top < min (y + min (m + 1) top) top) ⊎ (min (y + min (m + 1) top) top ≡ top)
capped-counted x y m top h =
    elim (cases_lt (x + m) top) [ inl lt ↦ inl (omega arith) | inr le ↦ inr (omega arith) ]
