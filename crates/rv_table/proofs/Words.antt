-- A word under the mask of all its bits.
use Rattle.std.proofs.Common.{◌≡◌, ℕ, ◌-◌, ◌%◌, ◌^◌, ◌<◌, ◌∙◌, true, eqb, bit_and, sym, arith}
use Rattle.std.proofs.lemmas.Bool.{eqb-true}
use Rattle.std.proofs.lemmas.Nat.{and_mask}

-- a word whose 32 bits are those of a value is the value
pub word_of-full_mask : (word value : ℕ) → word < 2 ^ 32 → eqb (bit_and word 0xffff_ffff) value ≡ true → word ≡ value
word_of-full_mask word value below e =
    let cut : bit_and word (2 ^ 32 - 1) ≡ word % 2 ^ 32 = and_mask word 32 in
    let same : word % 2 ^ 32 ≡ word = omega arith in
    sym same ∙ sym cut ∙ eqb-true (bit_and word 0xffff_ffff) value e
