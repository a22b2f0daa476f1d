-- How many hexadecimal digits a number has, and how long the texts of numbers are.
use Rattle.std.proofs.Common.{◌≡◌, ℕ, zero, suc, ◌+◌, ◌/◌, ◌%◌, ◌<◌, ◌≤◌, [], ◌∷◌, length, length-append, codes, refl, ap, ◌∙◌, arith}
use Rattle.std.specs.Int.Digits.{digits_of}
use Rattle.std.proofs.lemmas.Int.Digits.{length-digits_of_step}
use Rattle.std.specs.Char.{digit_char}
use Rattle.mach_base.specs.Number.{hex_text}
use Rattle.mach_base.specs.Texts.{address_text}
use Rattle.sym_map.specs.Texts.{digit_count}

-- one digit
pub one_digit : (n : ℕ) → 0 < n → n < 16 → digit_count n ≡ 1
one_digit n some few =
    let rest : n / 16 ≡ 0 = omega arith in
    length-digits_of_step 16 n (omega arith) some ∙ ap (λ (k : ℕ). length (digits_of 16 k) + 1) rest

-- one digit more
pub more_digits : (n count : ℕ) → 16 ≤ n → digit_count (n / 16) ≡ count → digit_count n ≡ count + 1
more_digits n count more rest = length-digits_of_step 16 n (omega arith) (omega arith) ∙ ap (λ (k : ℕ). k + 1) rest

pub two_digits : (n : ℕ) → 16 ≤ n → n < 256 → digit_count n ≡ 2
two_digits n more few = more_digits n 1 more (one_digit (n / 16) (omega arith) (omega arith))

pub three_digits : (n : ℕ) → 256 ≤ n → n < 4096 → digit_count n ≡ 3
three_digits n more few = more_digits n 2 (omega arith) (two_digits (n / 16) (omega arith) (omega arith))

pub four_digits : (n : ℕ) → 4096 ≤ n → n < 65536 → digit_count n ≡ 4
four_digits n more few = more_digits n 3 (omega arith) (three_digits (n / 16) (omega arith) (omega arith))

pub five_digits : (n : ℕ) → 65536 ≤ n → n < 1048576 → digit_count n ≡ 5
five_digits n more few = more_digits n 4 (omega arith) (four_digits (n / 16) (omega arith) (omega arith))

-- the counts of one to five digits
pub ruleset digit_counts = (one_digit, two_digits, three_digits, four_digits, five_digits)

-- so many digits are as long
pub length-hex_text : (digits value : ℕ) → length (hex_text digits value) ≡ digits
length-hex_text zero value = refl
length-hex_text (suc n) value =
    let more = length-append (hex_text n (value / 16)) (digit_char (value % 16) ∷ []) in
    let rest = length-hex_text n (value / 16) in
    omega arith

pub length-address_text : (addr : ℕ) → length (address_text addr) ≡ 18
unfolding address_text
length-address_text addr =
    let whole = length-append (codes "0x") (hex_text 16 addr) in
    let digits = length-hex_text 16 addr in
    omega arith
