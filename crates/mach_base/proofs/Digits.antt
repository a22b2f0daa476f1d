-- Digits that are all right, and the value of the first of them.
use Rattle.std.proofs.Common.{◌≡◌, ℕ, suc, ◌+◌, ◌-◌, ◌*◌, ◌/◌, ◌%◌, ◌^◌, ◌<◌, ◌≤◌, Bool, true, false, cond, not, zero, List, [], ◌∷◌, ◌++◌, length, get_or, take, Option, Some, None, refl, sym, ap, ◌∙◌, append_assoc, arith, nat_lt}
use Rattle.std.proofs.lemmas.Bool.{ltb-true}
use Rattle.std.specs.List.{position_from}
use Rattle.std.specs.Char.{is_digit, digit_char, digit_value}
use Rattle.std.specs.Str.Parse.{digits_value, AllDigits}
use Rattle.std.specs.Str.Parse.{digits_value_after}
use Rattle.std.proofs.Math.Nat.{div-div-eq-div-mul}
use Rattle.std.proofs.lemmas.Nat.{pow-add}
use native.Mathlib.Numerals.{unary_clauses}
use Rattle.std.proofs.lemmas.Iterator.Adapters.{position_from-zero}
use Rattle.std.proofs.lemmas.Fmt.{decimal_digit, decimal_step}
use Rattle.mach_base.specs.Number.{first_bad, hex_text, dec_text}

passes : (b : Bool) (k : ℕ) (rest : Option ℕ) → cond (not b) (Some k) rest ≡ None → (b ≡ true) × (rest ≡ None)
passes true k rest h = (refl, h)
passes false k rest h = absurd (cc)

none_bad : (radix k : ℕ) (cs : List ℕ) → position_from (λ c. not (is_digit c radix)) k cs ≡ None → AllDigits radix cs
none_bad radix k [] h = tt
none_bad radix k (c ∷ cs) h =
    let p = passes (nat_lt (digit_value c) radix) k (position_from (λ c. not (is_digit c radix)) (k + 1) cs) h in
    (ltb-true (digit_value c) radix p.0, none_bad radix (k + 1) cs p.1)

-- where no byte is bad, all are digits
pub AllDigits-first_bad : (radix : ℕ) (cs : List ℕ) → first_bad radix cs ≡ None → AllDigits radix cs
AllDigits-first_bad radix cs h = none_bad radix 0 cs (sym (position_from-zero (λ c. not (is_digit c radix)) cs) ∙ h)

-- each byte of digits is one
pub AllDigits-at : (radix : ℕ) (cs : List ℕ) (k : ℕ) → AllDigits radix cs → k < length cs → digit_value (get_or cs k 0) < radix
AllDigits-at radix [] k h lt = absurd (omega arith)
AllDigits-at radix (c ∷ cs) zero h lt = h.0
AllDigits-at radix (c ∷ cs) (suc k) h lt = AllDigits-at radix cs k h.1 (omega arith)

value_grows : (radix n : ℕ) (ds : List ℕ) → 0 < radix → n ≤ digits_value_after radix n ds
value_grows radix n [] h = omega arith
value_grows radix n (d ∷ ds) h =
    let more = value_grows radix (n * radix + digit_value d) ds h in
    let wide : n ≤ n * radix = grow n radix h in
    omega arith
  where
    grow : (n radix : ℕ) → 0 < radix → n ≤ n * radix
    grow n radix h = grind arith

front_le : (radix n i : ℕ) (ds : List ℕ) → 0 < radix → digits_value_after radix n (take i ds) ≤ digits_value_after radix n ds
front_le radix n zero ds h = value_grows radix n ds h
front_le radix n (suc i) [] h = omega arith
front_le radix n (suc i) (d ∷ ds) h = front_le radix (n * radix + digit_value d) i ds h

-- further digits only make the value larger
pub digits_value-take-le : (radix i : ℕ) (ds : List ℕ) → 0 < radix → digits_value radix (take i ds) ≤ digits_value radix ds
digits_value-take-le radix i ds h = front_le radix 0 i ds h

-- 2^(4p) is 16^p
pub two_pow-four : (p : ℕ) → 2 ^ (4 * p) ≡ 16 ^ p
two_pow-four zero = refl
two_pow-four (suc p) =
    let step : 4 * suc p ≡ 4 + 4 * p = omega arith in
    rw step (rw pow-add (rw (two_pow-four p) (four_more (16 ^ p) (16 ^ suc p) (sixteen_more p))))
  where
    sixteen_more : (p : ℕ) → 16 ^ suc p ≡ 16 ^ p * 16
    sixteen_more p = simp unary_clauses

    four_more : (x y : ℕ) → y ≡ x * 16 → 2 ^ 4 * x ≡ y
    four_more x y h = omega arith

-- the next of the hexadecimal digits, from the highest on
pub hex_text-more : (digits p value : ℕ) → suc p ≤ digits → hex_text (digits - p) (value / 16 ^ p) ≡ hex_text (digits - suc p) (value / 16 ^ suc p) ++ digit_char (value / 2 ^ (4 * p) % 16) ∷ []
hex_text-more digits p value le =
    let places : digits - p ≡ suc (digits - suc p) = omega arith in
    rw (places, two_pow-four p) (ap (λ x. hex_text (digits - suc p) x ++ digit_char (value / 16 ^ p % 16) ∷ []) (sixteenth value (16 ^ p) (16 ^ suc p) (simp unary_clauses)))
  where
    sixteenth : (value x y : ℕ) → y ≡ x * 16 → value / x / 16 ≡ value / y
    sixteenth value x y h = div-div-eq-div-mul value x 16 ∙ ap (λ n. value / n) (sym h)

-- where the digits above a place are out and the one at the place comes, those above the next place are
pub hex_text-push : (old items : List ℕ) (digits place value : ℕ) → 0 < place → place ≤ digits → items ≡ old ++ hex_text (digits - place) (value / 16 ^ place) → items ++ digit_char (value / 2 ^ (4 * (place - 1)) % 16) ∷ [] ≡ old ++ hex_text (digits - (place - 1)) (value / 16 ^ (place - 1))
hex_text-push old items digits zero value lt le told = absurd (omega arith)
hex_text-push old items digits (suc p) value lt le told =
    let back : suc p - 1 ≡ p = omega arith in
    rw (back, hex_text-more digits p value le) (ap (λ xs. xs ++ digit_char (value / 2 ^ (4 * p) % 16) ∷ []) told ∙ append_assoc old _ _)

-- a number of one digit, and one of more
pub dec_text_digit : (n : ℕ) → n < 10 → dec_text n ≡ (48 + n) ∷ []
dec_text_digit n lt = decimal_digit n lt

pub dec_text_step : (n : ℕ) → 10 ≤ n → n < 2 ^ 64 → dec_text n ≡ dec_text (n / 10) ++ (48 + n % 10) ∷ []
dec_text_step n more lt = decimal_step n more lt

-- one digit less
pub fewer_digits : (n places : ℕ) → 10 ≤ n → n < 10 ^ places → n / 10 < 10 ^ (places - 1)
fewer_digits n zero more lt = absurd (omega arith)
fewer_digits n (suc k) more lt = let one_less : suc k - 1 ≡ k = omega arith in rw one_less (fewer (10 ^ k) (simp unary_clauses at lt))
  where
    fewer : (p : ℕ) → n < p * 10 → n / 10 < p
    fewer p h = omega (arith, h)

pub two_digits : (n places : ℕ) → 10 ≤ n → n < 10 ^ places → 2 ≤ places
two_digits n zero more lt = absurd (omega arith)
two_digits n (suc zero) more lt = absurd (omega arith)
two_digits n (suc (suc k)) more lt = omega arith
