-- Numbers that are written byte by byte.
use Rattle.std.proofs.Common.{◌≡◌, ℕ, zero, suc, ◌+◌, ◌*◌, ◌/◌, ◌%◌, ◌^◌, List, set, refl, sym, ap, ◌∙◌, add-one, arith}
use Rattle.std.proofs.Math.Nat.{div-div-eq-div-mul}
use Rattle.std.proofs.lemmas.Grind.{pow_more}
use Rattle.std.proofs.lemmas.Nat.{pow-add}
use Rattle.mach_base.specs.Bytes.{byte_of}
use Rattle.mem_map.specs.Parts.{with_number}

pub power_of_256 : (n : ℕ) → 2 ^ (8 * n) ≡ 256 ^ n
power_of_256 zero = refl
power_of_256 (suc n) =
    let more : 8 * suc n ≡ 8 * n + 8 = omega arith in
    ap (λ k. 2 ^ k) more ∙ pow-add 2 (8 * n) 8 ∙ ap (λ x. x * 256) (power_of_256 n) ∙ sym (pow_more 256 n) ∙ ap (λ k. 256 ^ k) (add-one n)

-- a byte of a number by powers of 256
pub byte_of-power : (value k : ℕ) → byte_of value k ≡ value / 256 ^ k % 256
byte_of-power value k = ap (λ d. value / d % 256) (power_of_256 k)

-- what is left of the number one byte on
pub rest-more : (value k rest : ℕ) → rest ≡ value / 256 ^ k → rest / 256 ≡ value / 256 ^ (k + 1)
rest-more value k rest e = ap (λ r. r / 256) e ∙ div-div-eq-div-mul value (256 ^ k) 256 ∙ ap (λ n. value / n) (sym (pow_more 256 k))

-- one byte more is written
pub with_number-more : (bytes items : List ℕ) (place at k value rest : ℕ) → rest ≡ value / 256 ^ k → items ≡ with_number bytes place k value → at ≡ place + k → set items at (rest % 256) ≡ with_number bytes place (k + 1) value
with_number-more bytes items place at k value rest e is here =
    ap (λ xs. set xs at (rest % 256)) is
    ∙ ap (λ n. set (with_number bytes place k value) n (rest % 256)) here
    ∙ ap (λ r. set (with_number bytes place k value) (place + k) (r % 256)) e
    ∙ ap (λ b. set (with_number bytes place k value) (place + k) b) (sym (byte_of-power value k))
    ∙ ap (λ n. with_number bytes place n value) (sym (add-one k))
