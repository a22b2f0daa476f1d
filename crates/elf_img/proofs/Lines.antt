-- Lines of a map, and how long they are.
use Rattle.std.proofs.Common.{◌≡◌, ℕ, ◌+◌, ◌<◌, not, true, List, [], ◌∷◌, ◌++◌, length, length-append, append_assoc, Option, Some, None, refl, ap, ◌∙◌, arith}
use Rattle.std.proofs.lemmas.Bool.{and_parts, leb-true}
use Rattle.std.specs.Prelude.{nat_le}
use Rattle.std.specs.List.{flat_map, list_all, AllByRecursion}
use Rattle.std.specs.Option.{option_to_list}
use Rattle.mach_base.specs.Number.{hex_text}
use Rattle.sym_map.proofs.Digits.{length-hex_text}
use Rattle.elf_img.specs.MapText.{MapSymbol, letter_of, symbol_line, map_text}
use Rattle.elf_img.specs.Symbols.{is_graphic, is_made_up, is_listed_name}

append_nil : {A : Type 0} (xs : List A) → xs ++ [] ≡ xs
append_nil [] = refl
append_nil (x ∷ xs) = ap (λ ys. x ∷ ys) (append_nil xs)

-- the length of a line
pub line_size : (s : MapSymbol) → length (symbol_line s ++ []) ≡ 20 + length s.name
unfolding symbol_line
line_size s =
    let digits = length-hex_text 16 s.address in
    let whole = length-append (hex_text 16 s.address) (32 ∷ letter_of s.is_function ∷ 32 ∷ (s.name ++ 10 ∷ [])) in
    let name = length-append s.name (10 ∷ []) in
    let end = ap length (append_nil (symbol_line s)) in
    omega arith

-- the lines of both lists of symbols
pub map_text-append : (ss ts : List MapSymbol) → map_text (ss ++ ts) ≡ map_text ss ++ map_text ts
unfolding map_text
map_text-append [] ts = refl
map_text-append (s ∷ ss) ts = ap (λ ys. symbol_line s ++ ys) (map_text-append ss ts) ∙ joined (symbol_line s) (flat_map symbol_line ss) (flat_map symbol_line ts)
  where
    joined : (a b c : List ℕ) → a ++ (b ++ c) ≡ (a ++ b) ++ c
    joined a b c = simp append_assoc

-- the text of one symbol, or of none, after another
pub no_line : (o : Option MapSymbol) (xs : List ℕ) → o ≡ None → xs ≡ xs ++ map_text (option_to_list o)
unfolding map_text
no_line o xs none = rw (none, append_nil xs) refl

pub one_line : (o : Option MapSymbol) (s : MapSymbol) (xs ys : List ℕ) → o ≡ Some s → ys ≡ xs ++ symbol_line s → ys ≡ xs ++ map_text (option_to_list o)
unfolding map_text
one_line o s xs ys some more = rw (some, append_nil (symbol_line s)) more

word_of : (bs : List ℕ) → list_all is_graphic bs ≡ true → AllByRecursion (λ b. 32 < b) bs
word_of [] h = tt
word_of (b ∷ bs) h =
    let both = and_parts (is_graphic b) (list_all is_graphic bs) h in
    let low = leb-true 0x21 b (and_parts (nat_le 0x21 b) (nat_le b 0x7e) both.0).0 in
    (omega arith, word_of bs both.1)

-- a name that goes into a map is a word
pub listed_word : (name : List ℕ) → is_listed_name name ≡ true → AllByRecursion (λ b. 32 < b) name
listed_word name listed = word_of name (and_parts (list_all is_graphic name) (not (is_made_up name)) listed).0

pub listed_some : (name : List ℕ) → is_listed_name name ≡ true → 0 < length name
listed_some [] listed = absurd (cc)
listed_some (b ∷ bs) listed = omega arith
