-- Words without marks are cut off again.
use Rattle.std.proofs.Common.{◌≡◌, ℕ, ◌+◌, ◌<◌, ◌≤◌, Bool, true, false, not, ◌&&◌, cond, List, [], ◌∷◌, ◌++◌, length, take, drop, refl, ap, ◌∙◌, arith}
use Rattle.std.proofs.lemmas.Bool.{and_parts, ne_eqb}
use Rattle.std.proofs.Math.Seq.{take-append_seam, drop-append_seam}
use Rattle.std.specs.Char.{digit_value}
use Rattle.std.specs.List.{prefix_len}
use Rattle.std.specs.Str.Parse.{AllDigits}
use Rattle.rv_asm.specs.Meant.{is_mark, word_len}

-- no byte of the text is a mark
abbrev pub is_plain : List ℕ → Bool
is_plain [] = true
is_plain (b ∷ text) = not (is_mark b) && is_plain text

-- a mark comes next, or nothing
abbrev pub is_stopped : List ℕ → Bool
is_stopped [] = true
is_stopped (b ∷ text) = is_mark b

pub word_len-plain : (word rest : List ℕ) → is_plain word ≡ true → is_stopped rest ≡ true → word_len (word ++ rest) ≡ length word
unfolding word_len
word_len-plain [] [] plain stopped = refl
word_len-plain [] (b ∷ rest) plain stopped = ap (λ t. cond (not t) (1 + prefix_len (λ x. not (is_mark x)) rest) 0) stopped
word_len-plain (b ∷ word) rest plain stopped =
    let parts = and_parts (not (is_mark b)) (is_plain word) plain in
    let more = word_len-plain word rest parts.1 stopped in
    ap (λ t. cond t (1 + prefix_len (λ x. not (is_mark x)) (word ++ rest)) 0) parts.0 ∙ omega (arith, more)

pub take_word : (word rest : List ℕ) → is_plain word ≡ true → is_stopped rest ≡ true → take (word_len (word ++ rest)) (word ++ rest) ≡ word
take_word word rest plain stopped = ap (λ n. take n (word ++ rest)) (word_len-plain word rest plain stopped) ∙ take-append_seam word rest

pub drop_word : (word rest : List ℕ) → is_plain word ≡ true → is_stopped rest ≡ true → drop (word_len (word ++ rest)) (word ++ rest) ≡ rest
drop_word word rest plain stopped = ap (λ n. drop n (word ++ rest)) (word_len-plain word rest plain stopped) ∙ drop-append_seam word rest

-- digits are no marks
digit_is_no_mark : (radix d : ℕ) → radix ≤ 36 → digit_value d < radix → is_mark d ≡ false
digit_is_no_mark radix d low small =
    rw (ne_eqb d 32 (λ e. omega (arith, ap digit_value e, small, low)), ne_eqb d 44 (λ e. omega (arith, ap digit_value e, small, low)), ne_eqb d 40 (λ e. omega (arith, ap digit_value e, small, low)), ne_eqb d 41 (λ e. omega (arith, ap digit_value e, small, low))) refl

pub plain_digits : (radix : ℕ) (ds : List ℕ) → radix ≤ 36 → AllDigits radix ds → is_plain ds ≡ true
plain_digits radix [] low all = refl
plain_digits radix (d ∷ ds) low all = ap (λ t. not t && is_plain ds) (digit_is_no_mark radix d low all.0) ∙ plain_digits radix ds low all.1
