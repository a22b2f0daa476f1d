-- What is printed for a register is read as that register.
use Rattle.std.proofs.Common.{◌≡◌, ℕ, zero, suc, ◌<◌, eqb, Bool, true, false, ◌&&◌, Option, Some, None, refl, ap, ◌∙◌, arith}
use Rattle.std.proofs.lemmas.Bool.{eqb-true, false≢true}
use Rattle.hart_ctx.specs.declared.register_name.RegName.{RegName}
use Rattle.hart_ctx.specs.declared.register_name.RegName.TheVariants.{X, Pc}
use Rattle.hart_ctx.specs.RegisterName.{IsRegister, name_of, register_of, register_named}

-- whether it is the register of this number
abbrev is_number : Option RegName → ℕ → Bool
is_number None n = false
is_number (Some (X m)) n = eqb m n
is_number (Some Pc) n = false

is_number-true : (o : Option RegName) (n : ℕ) → is_number o n ≡ true → o ≡ Some (X n)
is_number-true None n e = absurd (false≢true e)
is_number-true (Some (X m)) n e = ap (λ k. Some (X k)) (eqb-true m n e)
is_number-true (Some Pc) n e = absurd (false≢true e)

-- whether the test holds of every number below
abbrev pub all_below : (ℕ → Bool) → ℕ → Bool
all_below test zero = true
all_below test (suc n) = test n && all_below test n

both : (a b : Bool) → (a && b) ≡ true → (a ≡ true) × (b ≡ true)
both true b e = (refl, e)
both false b e = absurd (false≢true e)

same_or_below : (test : ℕ → Bool) (n k : ℕ) (b : Bool) → eqb k n ≡ b → test n ≡ true → (k < n → test k ≡ true) → k < suc n → test k ≡ true
same_or_below test n k true same here below lt = ap test (eqb-true k n same) ∙ here
same_or_below test n k false other here below lt = below (grind arith)

-- what the test says of each number below, it says of this one
pub below_all : (test : ℕ → Bool) (n k : ℕ) → k < n → all_below test n ≡ true → test k ≡ true
below_all test zero k lt e = absurd (omega arith)
below_all test (suc n) k lt e =
    same_or_below test n k (eqb k n) refl (both (test n) (all_below test n) e).0 (λ below. below_all test n k below (both (test n) (all_below test n) e).1) lt

every : all_below (λ n. is_number (register_named (name_of (X n))) n) 32 ≡ true
unfolding name_of register_of
every = refl

-- the name of a register names it
pub register_named-name : (r : RegName) → IsRegister r → register_named (name_of r) ≡ Some r
unfolding name_of register_of
register_named-name (X n) h = is_number-true (register_named (name_of (X n))) n (below_all (λ k. is_number (register_named (name_of (X k))) k) 32 n h every)
register_named-name Pc h = refl
