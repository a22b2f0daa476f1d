-- Words and numbers that are written are read again.
use Rattle.std.proofs.Common.{◌≡◌, ℕ, ◌+◌, ◌≤◌, ◌<◌, ◌^◌, Bool, true, false, not, eqb, ◌&&◌, nat_lt, List, [], ◌∷◌, ◌++◌, length, map, None, Ok, refl, sym, ap, ◌∙◌, append_assoc, arith}
use Rattle.std.proofs.lemmas.Bool.{ne_eqb, lt-ltb, le-leb, ltb-true}
use Rattle.std.proofs.lemmas.Fmt.{decimal_is_IsNumeral}
use Rattle.std.proofs.lemmas.Str.Parse.{digit_from_value}
use Rattle.std.proofs.lemmas.Iterator.Adapters.{position_from-zero}
use Rattle.std.specs.Char.{is_digit, digit_value}
use Rattle.std.specs.List.{AllByRecursion, position_from}
use Rattle.std.specs.Str.Parse.{AllDigits, digits_value}
use Rattle.mach_base.specs.Number.{first_bad, number_of, dec_text}
use Rattle.mach_base.specs.Lines.{is_blank, begins_with_word, onto_first, lines_of, words_of}
use Rattle.img_text.specs.Directives.{each_number}
use Rattle.img_text.specs.Writing.{numbers_text, directive_text}
use Rattle.mach_base.proofs.Cuts.{and_no, word_goes_on}
use Rattle.img_text.proofs.Parts.{AllByRecursion-both}
use Rattle.img_text.proofs.Steps.{both_true}

-- every byte is a word's
abbrev pub Solid : List ℕ → Type 0
Solid bs = AllByRecursion (λ b. 32 < b) bs

-- every byte is a line's, and none is a carriage return
abbrev pub IsPlain : List ℕ → Type 0
IsPlain bs = AllByRecursion (λ b. 31 < b) bs

-- every number fits 64 bits
abbrev pub AllFit : List ℕ → Type 0
AllFit ns = AllByRecursion (λ n. n < 2 ^ 64) ns

abbrev pub is_solid : List ℕ → Bool
is_solid [] = true
is_solid (b ∷ bs) = nat_lt 32 b && is_solid bs

pub Solid-test : (bs : List ℕ) → is_solid bs ≡ true → Solid bs
Solid-test [] h = tt
Solid-test (b ∷ bs) h =
    let both = both_true (nat_lt 32 b) (is_solid bs) h in
    (ltb-true 32 b both.0, Solid-test bs both.1)

IsPlain-solid : (bs : List ℕ) → Solid bs → IsPlain bs
IsPlain-solid [] h = tt
IsPlain-solid (b ∷ bs) h = let above : 32 < b = h.0 in (omega arith, IsPlain-solid bs h.1)

Solid-digits : (ds : List ℕ) → AllDigits 10 ds → Solid ds
Solid-digits [] h = tt
Solid-digits (d ∷ ds) h = let range = digit_from_value d h.0 in (omega (arith, range.0), Solid-digits ds h.1)

Solid-dec_text : (n : ℕ) → n < 2 ^ 64 → Solid (dec_text n)
Solid-dec_text n fits = Solid-digits (dec_text n) (decimal_is_IsNumeral n fits).0.1

-- the numbers of a line, without its end
abbrev pub tail_text : List ℕ → List ℕ
tail_text [] = []
tail_text (n ∷ ns) = 32 ∷ (dec_text n ++ tail_text ns)

abbrev pub line_text : List ℕ → List ℕ → List ℕ
line_text name ns = name ++ tail_text ns

numbers_text-tail : (ns : List ℕ) → numbers_text ns ≡ tail_text ns ++ 10 ∷ []
numbers_text-tail [] = refl
numbers_text-tail (n ∷ ns) =
    ap (λ text. 32 ∷ text) (ap (λ text. dec_text n ++ text) (numbers_text-tail ns) ∙ sym (append_assoc (dec_text n) (tail_text ns) (10 ∷ [])))

pub directive_text-line : (name ns : List ℕ) → directive_text name ns ≡ line_text name ns ++ 10 ∷ []
unfolding directive_text
directive_text-line name ns = ap (λ text. name ++ text) (numbers_text-tail ns) ∙ sym (append_assoc name (tail_text ns) (10 ∷ []))

IsPlain-tail : (ns : List ℕ) → AllFit ns → IsPlain (tail_text ns)
IsPlain-tail [] h = tt
IsPlain-tail (n ∷ ns) h =
    (omega arith, AllByRecursion-both (λ b. 31 < b) (dec_text n) (tail_text ns) (IsPlain-solid (dec_text n) (Solid-dec_text n h.0)) (IsPlain-tail ns h.1))

pub IsPlain-line : (name ns : List ℕ) → Solid name → AllFit ns → IsPlain (line_text name ns)
IsPlain-line name ns solid fits = AllByRecursion-both (λ b. 31 < b) name (tail_text ns) (IsPlain-solid name solid) (IsPlain-tail ns fits)

-- a line is cut off before its line feed
pub lines_of-plain : (line rest : List ℕ) → IsPlain line → lines_of (line ++ 10 ∷ rest) ≡ line ∷ lines_of rest
unfolding lines_of
lines_of-plain [] rest plain = refl
lines_of-plain (b ∷ bs) rest plain =
    let above : 31 < b = plain.0 in
    let no_feed : eqb b 10 ≡ false = ne_eqb b 10 (λ (e : b ≡ 10). omega arith) in
    let no_return : eqb b 13 ≡ false = ne_eqb b 13 (λ (e : b ≡ 13). omega arith) in
    begin_line b (bs ++ 10 ∷ rest) no_feed no_return ∙ ap (onto_first b) (lines_of-plain bs rest plain.1)
  where
    begin_line : (b : ℕ) (more : List ℕ) → eqb b 10 ≡ false → eqb b 13 ≡ false → lines_of (b ∷ more) ≡ onto_first b (lines_of more)
    begin_line b more no_feed no_return = rw (no_feed, no_return) refl

is_blank-solid : (b : ℕ) → 32 < b → is_blank b ≡ false
is_blank-solid b above =
    let no_space : eqb b 32 ≡ false = ne_eqb b 32 (λ (e : b ≡ 32). omega arith) in
    let no_tab : eqb b 9 ≡ false = ne_eqb b 9 (λ (e : b ≡ 9). omega arith) in
    rw (no_space, no_tab) refl

-- a word is cut off before a blank or the end
words_of-solid : (word rest : List ℕ) → 0 < length word → Solid word → begins_with_word rest ≡ false → words_of (word ++ rest) ≡ word ∷ words_of rest
unfolding words_of
words_of-solid [] rest some solid end = absurd (omega arith)
words_of-solid (b ∷ []) rest some solid end = rw (is_blank-solid b solid.0, end) refl
words_of-solid (b ∷ c ∷ cs) rest some solid end =
    let next : begins_with_word (c ∷ (cs ++ rest)) ≡ true = ap not (is_blank-solid c solid.1.0) in
    word_goes_on b (c ∷ (cs ++ rest)) (is_blank-solid b solid.0) next ∙ ap (onto_first b) (words_of-solid (c ∷ cs) rest (omega arith) solid.1 end)

tail-end : (ns : List ℕ) → begins_with_word (tail_text ns) ≡ false
tail-end [] = refl
tail-end (n ∷ ns) = refl

words_of-tail : (ns : List ℕ) → AllFit ns → words_of (tail_text ns) ≡ map dec_text ns
unfolding words_of
words_of-tail [] h = refl
words_of-tail (n ∷ ns) h =
    words_of-solid (dec_text n) (tail_text ns) (decimal_is_IsNumeral n h.0).0.0 (Solid-dec_text n h.0) (tail-end ns) ∙ ap (λ ws. dec_text n ∷ ws) (words_of-tail ns h.1)

pub words_of-line : (name ns : List ℕ) → 0 < length name → Solid name → AllFit ns → words_of (line_text name ns) ≡ name ∷ map dec_text ns
words_of-line name ns some solid fits =
    words_of-solid name (tail_text ns) some solid (tail-end ns) ∙ ap (λ ws. name ∷ ws) (words_of-tail ns fits)

-- among digits of a radix none is bad
none_bad : (radix k : ℕ) (ds : List ℕ) → AllDigits radix ds → position_from (λ c. not (is_digit c radix)) k ds ≡ None
none_bad radix k [] h = refl
none_bad radix k (d ∷ ds) h =
    let digit : nat_lt (digit_value d) radix ≡ true = lt-ltb (digit_value d) radix h.0 in
    rw digit (none_bad radix (k + 1) ds h.1)

pub first_bad-digits : (radix : ℕ) (ds : List ℕ) → AllDigits radix ds → first_bad radix ds ≡ None
first_bad-digits radix ds h = position_from-zero (λ c. not (is_digit c radix)) ds ∙ none_bad radix 0 ds h

-- digits are a number in decimal
number_of-digits : (ds : List ℕ) → 0 < length ds → AllDigits 10 ds → digits_value 10 ds < 2 ^ 64 → number_of 10 ds ≡ Ok (digits_value 10 ds)
number_of-digits [] some digits fits = absurd (omega arith)
number_of-digits (d ∷ []) some digits fits = rw (first_bad-digits 10 (d ∷ []) digits, lt-ltb (digits_value 10 (d ∷ [])) (2 ^ 64) fits) refl
number_of-digits (d ∷ e ∷ ds) some digits fits =
    let range = digit_from_value e digits.1.0 in
    let no_small_x : eqb e 120 ≡ false = ne_eqb e 120 (λ (h : e ≡ 120). omega (arith, range.1)) in
    let no_large_x : eqb e 88 ≡ false = ne_eqb e 88 (λ (h : e ≡ 88). omega (arith, range.1)) in
    rw (no_small_x, no_large_x, and_no) (rw (first_bad-digits 10 (d ∷ e ∷ ds) digits, lt-ltb (digits_value 10 (d ∷ e ∷ ds)) (2 ^ 64) fits) refl)

pub number_of-dec_text : (n : ℕ) → n < 2 ^ 64 → number_of 10 (dec_text n) ≡ Ok n
number_of-dec_text n fits =
    let numeral = decimal_is_IsNumeral n fits in
    let value : digits_value 10 (dec_text n) ≡ n = numeral.1 in
    number_of-digits (dec_text n) numeral.0.0 numeral.0.1 (rw value fits) ∙ ap (λ k. Ok k) value

pub each_number-dec_text : (largest : ℕ) (ns : List ℕ) → AllFit ns → AllByRecursion (λ n. n ≤ largest) ns → each_number largest (map dec_text ns) ≡ Ok ns
unfolding each_number
each_number-dec_text largest [] fits small = refl
each_number-dec_text largest (n ∷ ns) fits small =
    rw (number_of-dec_text n fits.0, le-leb n largest small.0, each_number-dec_text largest ns fits.1 small.1) refl
