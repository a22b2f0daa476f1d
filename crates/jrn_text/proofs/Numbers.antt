-- Numbers that are spelled are read again.
use Rattle.std.proofs.Common.{if◌then◌else◌, ◌≡◌, ◌≢◌, ℕ, zero, suc, ◌+◌, ◌^◌, ◌<◌, ◌≤◌, ◌==◌, ◌&&◌, ◌||◌, not, Bool, true, false, cond, List, [], ◌∷◌, ◌++◌, length, drop, Option, Some, None, Result, Ok, Err, nat_lt, refl, sym, ap, ◌∙◌, arith, subst}
use Rattle.std.proofs.lemmas.Bool.{lt-ltb, eq-eqb, ne_eqb}
use Rattle.std.specs.Char.{is_digit, digit_value}
use Rattle.std.specs.List.{position_from}
use Rattle.std.proofs.lemmas.Iterator.Adapters.{position_from-zero}
use Rattle.mach_base.proofs.Cuts.{and_no}
use Rattle.mach_base.specs.declared.number.NumFault.TheVariants.{TooLarge}
use Rattle.std.specs.Str.Parse.{digits_value, AllDigits}
use Rattle.std.specs.Fmt.{digits}
use Rattle.std.proofs.lemmas.Fmt.{decimal_is_IsNumeral, digits_is_IsNumeral}
use Rattle.std.proofs.lemmas.Str.Parse.{digit_from_value}
use Rattle.std.specs.Option.{option_and_then, option_map}
use Rattle.std.specs.Result.{result_ok}
use Rattle.mach_base.specs.Number.{has_prefix, first_bad, value_or_fault, fitting, number_from, number_of, dec_text}
use Rattle.jrn_text.specs.Loose.{number_below}
use Rattle.jrn_text.proofs.Cut.{HasNone}

-- digits that are all right have no bad one
all_right : (radix k : ℕ) (ds : List ℕ) → AllDigits radix ds → position_from (λ c. not (is_digit c radix)) k ds ≡ None
all_right radix k [] all = refl
all_right radix k (d ∷ ds) all =
    ap (λ t. cond (not t) (Some k) (position_from (λ c. not (is_digit c radix)) (k + 1) ds)) (lt-ltb (digit_value d) radix all.0) ∙ all_right radix (k + 1) ds all.1

none_bad : (radix : ℕ) (ds : List ℕ) → AllDigits radix ds → first_bad radix ds ≡ None
none_bad radix ds all = position_from-zero (λ c. not (is_digit c radix)) ds ∙ all_right radix 0 ds all

-- digits are read as their value
pub number_from-digits : (radix start : ℕ) (ds : List ℕ) → AllDigits radix ds → 0 < length ds → digits_value radix ds < 2 ^ 64 → number_from radix start ds ≡ Ok (digits_value radix ds)
number_from-digits radix start [] all some small = absurd (omega arith)
number_from-digits radix start (d ∷ ds) all some small =
    ap (value_or_fault radix start (d ∷ ds)) (none_bad radix (d ∷ ds) all) ∙ ap (λ t. cond t (Ok (digits_value radix (d ∷ ds))) (Err TooLarge)) (lt-ltb _ _ small)

-- decimal digits have no prefix
no_prefix : (ds : List ℕ) → AllDigits 10 ds → has_prefix ds ≡ false
no_prefix [] all = refl
no_prefix (a ∷ []) all = refl
no_prefix (a ∷ b ∷ ds) all =
    let range = digit_from_value b all.1.0 in
    rw (ne_eqb b 120 (λ e. omega (arith, range, e)), ne_eqb b 88 (λ e. omega (arith, range, e))) (and_no (a == 48))

-- a decimal number is read again
pub number_of-dec : (n : ℕ) → n < 2 ^ 64 → number_of 10 (dec_text n) ≡ Ok n
number_of-dec n small =
    let is = decimal_is_IsNumeral n small in
    ap (λ t. cond t (number_from 16 2 (drop 2 (dec_text n))) (number_from 10 0 (dec_text n))) (no_prefix (dec_text n) is.0.1)
    ∙ number_from-digits 10 0 (dec_text n) is.0.1 is.0.0 (omega (arith, is.1, small))
    ∙ ap Ok is.1

-- and so is one below a bound
pub number_below-dec : (bound n : ℕ) → n < bound → n < 2 ^ 64 → number_below bound (dec_text n) ≡ Some n
number_below-dec bound n lt small =
    ap (λ r. option_and_then (λ m. if nat_lt m bound then Some m else None) (result_ok r)) (number_of-dec n small)
    ∙ ap (λ t. cond t (Some n) None) (lt-ltb n bound lt)

-- a hexadecimal number after 0x is read again
pub number_of-hex : (n : ℕ) → n < 2 ^ 64 → number_of 16 (48 ∷ 120 ∷ digits 16 false n) ≡ Ok n
number_of-hex n small =
    let is = digits_is_IsNumeral 16 false (omega arith) (omega arith) n (omega arith) in
    number_from-digits 16 2 (digits 16 false n) is.0.1 is.0.0 (omega (arith, is.1, small)) ∙ ap Ok is.1

-- digits have no byte that is no digit
pub digits_none : (radix byte : ℕ) (ds : List ℕ) → radix ≤ digit_value byte → AllDigits radix ds → HasNone byte ds
digits_none radix byte [] out all = tt
digits_none radix byte (d ∷ ds) out all = ((λ e. omega (arith, ap digit_value e, all.0, out)), digits_none radix byte ds out all.1)

pub dec_none : (byte n : ℕ) → 10 ≤ digit_value byte → n < 2 ^ 64 → HasNone byte (dec_text n)
dec_none byte n out small = digits_none 10 byte (dec_text n) out (decimal_is_IsNumeral n small).0.1
