-- Numbers in two's complement: what they are as bits, and what range they have.
use Rattle.std.proofs.Common.{◌≡◌, ℕ, zero, suc, lit<, ◌+◌, ◌-◌, ◌*◌, ◌%◌, ◌^◌, ◌<◌, ◌≤◌, Bool, true, false, refl, sym, ap, ◌∙◌, arith, ℤ, pos, negsuc}
use Rattle.std.specs.Int.{w32, cast_unsigned, from_bool}
use Rattle.std.specs.Prelude.{nat_lt, ◌==◌}
use Rattle.std.proofs.lemmas.Bool.{cond_both, cond-true, cond-false, lt-ltb, le-ltb, ltb-true, ltb-false, eq-eqb, eqb-true}
use Rattle.std.proofs.lemmas.Nat.{mod_low}
use Rattle.rv_decode.specs.Bits.{bits_at, flag_at, signed, is_signed, is_unsigned, is_multiple}

pub is_signed-signed : (n v : ℕ) → 2 ^ n ≡ 2 * 2 ^ (n - 1) → v < 2 ^ n → is_signed n (signed n v) ≡ true
is_signed-signed n v e h =
    cond_both (nat_lt v (2 ^ (n - 1))) (pos v) (negsuc (2 ^ n - 1 - v)) (λ z. is_signed n z ≡ true) (λ t. t)
    (λ f. lt-ltb _ _ (omega (arith, ltb-false v (2 ^ (n - 1)) f)))

pub mod_small : (v n : ℕ) → v < 2 ^ n → v % 2 ^ n ≡ v
mod_small v n h = let e : 0 * 2 ^ n + v ≡ v = omega arith in ap (λ x. x % 2 ^ n) (sym e) ∙ mod_low 0 n v h

-- the bits that are left of a number's pattern of 32 bits
pub pattern-signed : (n v q : ℕ) → 2 ^ n ≡ 2 * 2 ^ (n - 1) → 2 ^ 32 ≡ (q + 1) * 2 ^ n → v < 2 ^ n → cast_unsigned w32 (signed n v) % 2 ^ n ≡ v
pattern-signed n v q e f h =
    cond_both (nat_lt v (2 ^ (n - 1))) (pos v) (negsuc (2 ^ n - 1 - v)) (λ z. cast_unsigned w32 z % 2 ^ n ≡ v)
    (λ t. mod_small v n h)
    (λ g. let k : 2 ^ 32 - suc (2 ^ n - 1 - v) ≡ q * 2 ^ n + v = omega arith in ap (λ x. x % 2 ^ n) k ∙ mod_low q n v h)

pub signed-pattern : (n q : ℕ) (z : ℤ) → 2 ^ n ≡ 2 * 2 ^ (n - 1) → 2 ^ 32 ≡ (q + 1) * 2 ^ n → is_signed n z ≡ true → signed n (cast_unsigned w32 z % 2 ^ n) ≡ z
signed-pattern n q (pos v) e f h =
    let b : v < 2 ^ (n - 1) = ltb-true _ _ h in
    ap (signed n) (mod_small v n (omega arith)) ∙ cond-true _ _ _ h
signed-pattern n q (negsuc v) e f h =
    let b : v < 2 ^ (n - 1) = ltb-true _ _ h in
    let k : 2 ^ 32 - suc v ≡ q * 2 ^ n + (2 ^ n - suc v) = omega arith in
    let m : (2 ^ 32 - suc v) % 2 ^ n ≡ 2 ^ n - suc v = ap (λ x. x % 2 ^ n) k ∙ mod_low q n (2 ^ n - suc v) (omega arith) in
    let back : 2 ^ n - 1 - (2 ^ n - suc v) ≡ v = omega arith in
    ap (signed n) m ∙ cond-false _ _ _ (le-ltb (2 ^ n - suc v) (2 ^ (n - 1)) (omega arith)) ∙ ap negsuc back

-- multiples
pub is_multiple-signed_32 : (v : ℕ) → v < 2 ^ 32 → v % 4096 ≡ 0 → is_multiple 4096 (signed 32 v) ≡ true
is_multiple-signed_32 v h m =
    cond_both (nat_lt v (2 ^ 31)) (pos v) (negsuc (2 ^ 32 - 1 - v)) (λ z. is_multiple 4096 z ≡ true)
    (λ t. eq-eqb _ _ m) (λ f. eq-eqb _ _ (omega arith))

pub is_multiple-signed_21 : (v : ℕ) → v < 2 ^ 21 → v % 2 ≡ 0 → is_multiple 2 (signed 21 v) ≡ true
is_multiple-signed_21 v h m =
    cond_both (nat_lt v (2 ^ 20)) (pos v) (negsuc (2 ^ 21 - 1 - v)) (λ z. is_multiple 2 z ≡ true)
    (λ t. eq-eqb _ _ m) (λ f. eq-eqb _ _ (omega arith))

pub is_multiple-signed_13 : (v : ℕ) → v < 2 ^ 13 → v % 2 ≡ 0 → is_multiple 2 (signed 13 v) ≡ true
is_multiple-signed_13 v h m =
    cond_both (nat_lt v (2 ^ 12)) (pos v) (negsuc (2 ^ 13 - 1 - v)) (λ z. is_multiple 2 z ≡ true)
    (λ t. eq-eqb _ _ m) (λ f. eq-eqb _ _ (omega arith))

pub pattern-multiple_4096 : (z : ℤ) → is_signed 32 z ≡ true → is_multiple 4096 z ≡ true → cast_unsigned w32 z % 4096 ≡ 0
pattern-multiple_4096 (pos v) s m = eqb-true _ _ m
pattern-multiple_4096 (negsuc v) s m =
    let b : v < 2 ^ 31 = ltb-true _ _ s in let d : (v + 1) % 4096 ≡ 0 = eqb-true _ _ m in omega arith

pub pattern-multiple_2 : (z : ℤ) → is_signed 32 z ≡ true → is_multiple 2 z ≡ true → cast_unsigned w32 z % 2 ≡ 0
pattern-multiple_2 (pos v) s m = eqb-true _ _ m
pattern-multiple_2 (negsuc v) s m =
    let b : v < 2 ^ 31 = ltb-true _ _ s in let d : (v + 1) % 2 ≡ 0 = eqb-true _ _ m in omega arith

pub is_signed_32 : (n : ℕ) (z : ℤ) → 2 ^ (n - 1) ≤ 2 ^ 31 → is_signed n z ≡ true → is_signed 32 z ≡ true
is_signed_32 n (pos v) l h = lt-ltb _ _ (omega (arith, ltb-true v (2 ^ (n - 1)) h))
is_signed_32 n (negsuc v) l h = lt-ltb _ _ (omega (arith, ltb-true v (2 ^ (n - 1)) h))

pub pattern-lt : (z : ℤ) → is_signed 32 z ≡ true → cast_unsigned w32 z < 2 ^ 32
pattern-lt (pos v) h = omega (arith, ltb-true v (2 ^ 31) h)
pattern-lt (negsuc v) h = omega arith

pub unsigned_value : (n : ℕ) (z : ℤ) → is_unsigned n z ≡ true → (v : ℕ) × (z ≡ pos v) × (v < 2 ^ n)
unsigned_value n (pos v) h = (v, refl, ltb-true _ _ h)
unsigned_value n (negsuc v) h = absurd (omega (arith, ltb-true v 0 h))

-- a flag is its bit
from_bool-one : (b : ℕ) → b < 2 → from_bool (b == 1) ≡ b
from_bool-one zero h = refl
from_bool-one (suc zero) h = refl
from_bool-one (suc (suc b)) h = absurd (omega arith)

pub from_bool-flag_at : (w k : ℕ) → from_bool (flag_at w k) ≡ bits_at w k 1
from_bool-flag_at w k = from_bool-one (bits_at w k 1) (omega arith)

pub flag-from_bool : (b : Bool) → (from_bool b == 1) ≡ b
flag-from_bool true = refl
flag-from_bool false = refl

pub from_bool-lt : (b : Bool) → from_bool b < 2
from_bool-lt true = lit< tt
from_bool-lt false = lit< tt
