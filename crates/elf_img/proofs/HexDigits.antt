-- The digits of an address are read as the address.
use Rattle.std.proofs.Common.{◌≡◌, ℕ, zero, suc, ◌*◌, ◌/◌, ◌%◌, ◌<◌, ◌≤◌, ◌^◌, ◌&&◌, Bool, true, false, cond, not, List, [], ◌∷◌, ◌++◌, length, None, Some, Result, Ok, inl, inr, refl, ◌∙◌, subst, arith}
use Rattle.std.proofs.Math.Nat.{pow-suc}
use Rattle.std.proofs.lemmas.Bool.{ne_eqb, lt-ltb, le-leb, cases_lt}
use Rattle.std.proofs.lemmas.Str.{digit_value-digit_char}
use Rattle.std.proofs.lemmas.Int.Digits.{digits_value_push}
use Rattle.std.specs.Char.{digit_char, digit_value}
use Rattle.std.specs.List.{AllByRecursion}
use Rattle.std.specs.Str.Parse.{AllDigits, digits_value}
use Rattle.std.specs.Prelude.{nat_le}
use Rattle.std.specs.Result.{result_ok}
use Rattle.mach_base.specs.declared.number.NumFault.{NumFault}
use Rattle.mach_base.specs.Number.{has_prefix, number_of, hex_text}
use Rattle.mach_base.proofs.Cuts.{and_no}
use Rattle.mach_base.specs.Lines.{is_comment}
use Rattle.sym_map.specs.Reading.{address_of}
use Rattle.sym_map.proofs.Digits.{length-hex_text}
use Rattle.img_text.proofs.Spelled.{first_bad-digits}

all_digits_push : (ds : List ℕ) (d : ℕ) → AllDigits 16 ds → digit_value d < 16 → AllDigits 16 (ds ++ d ∷ [])
all_digits_push [] d all last = (last, tt)
all_digits_push (e ∷ ds) d all last = (all.0, all_digits_push ds d all.1 last)

digit_fits : (v : ℕ) → digit_value (digit_char (v % 16)) ≡ v % 16
digit_fits v = digit_value-digit_char (v % 16) (omega arith)

hex_digits : (n v : ℕ) → AllDigits 16 (hex_text n v)
hex_digits zero v = tt
hex_digits (suc n) v = all_digits_push (hex_text n (v / 16)) (digit_char (v % 16)) (hex_digits n (v / 16)) (rw (digit_fits v) (omega arith))

hex_value : (n v : ℕ) → v < 16 ^ n → digits_value 16 (hex_text n v) ≡ v
hex_value zero v fits = omega arith
hex_value (suc n) v fits =
    let whole : v < 16 ^ n * 16 = rw (pow-suc 16 n) at fits in
    let rest = hex_value n (v / 16) (fewer (16 ^ n) whole) in
    let push = digits_value_push 16 (hex_text n (v / 16)) (digit_char (v % 16)) in
    let last = digit_fits v in
    push ∙ (rw (rest, last) (omega arith))
  where
    fewer : (p : ℕ) → v < p * 16 → v / 16 < p
    fewer p h = omega (arith, h)

not_x : (d : ℕ) → digit_value d < 16 → (d ≡ 120 → ⊥) × (d ≡ 88 → ⊥)
not_x d small = (λ (e : d ≡ 120). large_120 (subst (λ (c : ℕ). digit_value c < 16) e small), λ (e : d ≡ 88). large_88 (subst (λ (c : ℕ). digit_value c < 16) e small))
  where
    large_120 : digit_value 120 < 16 → ⊥
    large_120 h = omega arith

    large_88 : digit_value 88 < 16 → ⊥
    large_88 h = omega arith

no_prefix : (ds : List ℕ) → AllDigits 16 ds → has_prefix ds ≡ false
no_prefix [] h = refl
no_prefix (d ∷ []) h = refl
no_prefix (d ∷ e ∷ ds) h =
    let x = not_x e h.1.0 in
    rw (ne_eqb e 120 x.0, ne_eqb e 88 x.1, and_no) refl

number_of_digits : (ds : List ℕ) (v : ℕ) → 0 < length ds → AllDigits 16 ds → digits_value 16 ds ≡ v → v < 2 ^ 64 → number_of 16 ds ≡ Ok v
number_of_digits [] v some digits value fits = absurd (omega arith)
number_of_digits (d ∷ ds) v some digits value fits =
    rw (no_prefix (d ∷ ds) digits, first_bad-digits 16 (d ∷ ds) digits, value, lt-ltb v (2 ^ 64) fits) refl

address_of_digits : (ds : List ℕ) (v : ℕ) → 0 < length ds → length ds ≤ 16 → AllDigits 16 ds → digits_value 16 ds ≡ v → v < 2 ^ 64 → address_of ds ≡ Some v
address_of_digits ds v some short digits value fits =
    whole (nat_le (length ds) 16) (has_prefix ds) (number_of 16 ds) (le-leb (length ds) 16 short) (no_prefix ds digits) (number_of_digits ds v some digits value fits)
  where
    whole : (a b : Bool) (n : Result ℕ NumFault) → a ≡ true → b ≡ false → n ≡ Ok v → cond (a && not b) (result_ok n) None ≡ Some v
    whole a b n short_enough no_x number = rw (short_enough, no_x, number) refl

-- 16 digits of a number below 2^64 are its address
pub address_of-hex_text : (v : ℕ) → v < 2 ^ 64 → address_of (hex_text 16 v) ≡ Some v
address_of-hex_text v fits =
    let size = length-hex_text 16 v in
    address_of_digits (hex_text 16 v) v (omega arith) (omega arith) (hex_digits 16 v) (hex_value 16 v fits) fits

digit_low : (d : ℕ) → d < 48 → digit_value d ≡ 36
digit_low d low = rw (lt-ltb d 48 low) refl

digit_above : (d : ℕ) → digit_value d < 16 → 47 < d
digit_above d small =
    elim (cases_lt d 48) [
      | inl low ↦ absurd (too_large (subst (λ (n : ℕ). n < 16) (digit_low d low) small))
      | inr high ↦ omega arith
    ]
  where
    too_large : 36 < 16 → ⊥
    too_large h = omega arith

words_digits : (ds : List ℕ) → AllDigits 16 ds → AllByRecursion (λ b. 32 < b) ds
words_digits [] h = tt
words_digits (d ∷ ds) h = let above = digit_above d h.0 in (omega arith, words_digits ds h.1)

-- digits are a word, and no comment
pub word-hex_text : (v : ℕ) → AllByRecursion (λ b. 32 < b) (hex_text 16 v)
word-hex_text v = words_digits (hex_text 16 v) (hex_digits 16 v)

no_comment : (ds : List ℕ) → AllDigits 16 ds → is_comment ds ≡ false
no_comment [] h = refl
no_comment (d ∷ ds) h = let above = digit_above d h.0 in ne_eqb d 35 (λ (e : d ≡ 35). omega arith)

pub is_comment-hex_text : (v : ℕ) → is_comment (hex_text 16 v) ≡ false
is_comment-hex_text v = no_comment (hex_text 16 v) (hex_digits 16 v)
