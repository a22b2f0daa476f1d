-- The text of a map is read as its symbols.
use Rattle.std.proofs.Common.{◌≡◌, ℕ, ◌<◌, ◌≤◌, Bool, true, false, not, eqb, List, [], ◌∷◌, ◌++◌, length, map, Some, Ok, refl, sym, ap, ◌∙◌, subst, append_assoc, arith}
use Rattle.std.proofs.lemmas.Bool.{le-leb, ne_eqb}
use Rattle.std.proofs.lemmas.List.{length-map}
use Rattle.std.specs.List.{AllByRecursion}
use Rattle.mach_base.specs.Lines.{is_blank, begins_with_word, onto_first, lines_of, words_of}
use Rattle.mach_base.specs.Number.{hex_text}
use Rattle.mach_base.proofs.Cuts.{word_goes_on}
use Rattle.img_text.proofs.Parts.{AllByRecursion-both}
use Rattle.img_text.proofs.Spelled.{lines_of-plain}
use Rattle.sym_map.specs.Reading.{symbol_of, symbols_of}
use Rattle.sym_map.specs.Grammar.{IsMapLine, Names}
use Rattle.sym_map.specs.Grammar.IsMapLine.{named as named_line}
use Rattle.mach_base.specs.LineByLine.EachSays.{nothing, one_more}
use Rattle.sym_map.proofs.Grammar.{gives_its_symbols}
use Rattle.sym_map.proofs.Digits.{length-hex_text}
use Rattle.elf_img.specs.MapText.{MapSymbol, IsMapSymbol, letter_of, symbol_line, map_text, named}
use Rattle.elf_img.proofs.HexDigits.{address_of-hex_text, word-hex_text, is_comment-hex_text}

-- each byte is a word's
abbrev IsWord : List ℕ → Type 0
IsWord bs = AllByRecursion (λ b. 32 < b) bs

no_blank : (b : ℕ) → 32 < b → is_blank b ≡ false
no_blank b above =
    let no_space : eqb b 32 ≡ false = ne_eqb b 32 (λ (e : b ≡ 32). omega arith) in
    let no_tab : eqb b 9 ≡ false = ne_eqb b 9 (λ (e : b ≡ 9). omega arith) in
    rw (no_space, no_tab) refl

-- a word is cut off before a blank or the end
first_word : (word rest : List ℕ) → 0 < length word → IsWord word → begins_with_word rest ≡ false → words_of (word ++ rest) ≡ word ∷ words_of rest
unfolding words_of
first_word [] rest some solid end = absurd (omega arith)
first_word (b ∷ []) rest some solid end = rw (no_blank b solid.0, end) refl
first_word (b ∷ c ∷ cs) rest some solid end =
    let next : begins_with_word (c ∷ (cs ++ rest)) ≡ true = ap not (no_blank c solid.1.0) in
    word_goes_on b (c ∷ (cs ++ rest)) (no_blank b solid.0) next ∙ ap (onto_first b) (first_word (c ∷ cs) rest (omega arith) solid.1 end)

last_word : (word : List ℕ) → 0 < length word → IsWord word → words_of word ≡ word ∷ []
unfolding words_of
last_word word some solid = ap words_of (sym (append_nil word)) ∙ first_word word [] some solid refl
  where
    append_nil : (xs : List ℕ) → xs ++ [] ≡ xs
    append_nil [] = refl
    append_nil (x ∷ xs) = ap (λ ys. x ∷ ys) (append_nil xs)

after_blank : (rest : List ℕ) → words_of (32 ∷ rest) ≡ words_of rest
unfolding words_of
after_blank rest = refl

letter_above : (f : Bool) → 32 < letter_of f
letter_above true = omega arith
letter_above false = omega arith

-- a symbol's line without its end
abbrev plain_line : MapSymbol → List ℕ
plain_line s = hex_text 16 s.address ++ (32 ∷ letter_of s.is_function ∷ 32 ∷ s.name)

words_of-line : (s : MapSymbol) → IsMapSymbol s → words_of (plain_line s) ≡ hex_text 16 s.address ∷ (letter_of s.is_function ∷ []) ∷ s.name ∷ []
words_of-line s keeps =
    let size = length-hex_text 16 s.address in
    let letter = letter_of s.is_function in
    first_word (hex_text 16 s.address) (32 ∷ letter ∷ 32 ∷ s.name) (omega arith) (word-hex_text s.address) refl
    ∙ ap (λ ws. hex_text 16 s.address ∷ ws) (after_blank (letter ∷ 32 ∷ s.name)
    ∙ (first_word (letter ∷ []) (32 ∷ s.name) (omega arith) (letter_above s.is_function, tt) refl
    ∙ ap (λ ws. (letter ∷ []) ∷ ws) (after_blank s.name ∙ last_word s.name keeps.some keeps.word)))

plain_word : (bs : List ℕ) → IsWord bs → AllByRecursion (λ b. 31 < b) bs
plain_word [] h = tt
plain_word (b ∷ bs) h = let above : 32 < b = h.0 in (omega arith, plain_word bs h.1)

plain : (s : MapSymbol) → IsMapSymbol s → AllByRecursion (λ b. 31 < b) (plain_line s)
plain s keeps =
    let above : 32 < letter_of s.is_function = letter_above s.is_function in
    AllByRecursion-both (λ b. 31 < b) (hex_text 16 s.address) (32 ∷ letter_of s.is_function ∷ 32 ∷ s.name) (plain_word (hex_text 16 s.address) (word-hex_text s.address)) (omega arith, (omega arith, (omega arith, plain_word s.name keeps.word)))

line_and_rest : (s : MapSymbol) (rest : List ℕ) → symbol_line s ++ rest ≡ plain_line s ++ 10 ∷ rest
unfolding symbol_line
line_and_rest s rest = simp append_assoc

symbol_of-line : (s : MapSymbol) → IsMapSymbol s → symbol_of (hex_text 16 s.address) (letter_of s.is_function ∷ []) s.name ≡ Some (named s)
symbol_of-line s keeps = rw (le-leb (length s.name) 255 keeps.short, address_of-hex_text s.address keeps.fits) refl

names : (ss : List MapSymbol) → AllByRecursion IsMapSymbol ss → Names (lines_of (map_text ss)) (map named ss)
unfolding map_text lines_of
names [] keep = nothing
names (s ∷ ss) keep =
    let cut : lines_of (symbol_line s ++ map_text ss) ≡ plain_line s ∷ lines_of (map_text ss) = ap lines_of (line_and_rest s (map_text ss)) ∙ lines_of-plain (plain_line s) (map_text ss) (plain s keep.0) in
    let right : IsMapLine (words_of (plain_line s)) (Some (named s)) = rw (words_of-line s keep.0) (named_line (hex_text 16 s.address) (letter_of s.is_function ∷ []) s.name (named s) (is_comment-hex_text s.address) (symbol_of-line s keep.0)) in
    subst (λ (ls : List (List ℕ)). Names ls (named s ∷ map named ss)) (sym cut) (one_more (plain_line s) (lines_of (map_text ss)) (Some (named s)) (map named ss) right (names ss keep.1))

-- the map of symbols that aren't too many reads as the symbols
pub reads_back : (ss : List MapSymbol) → AllByRecursion IsMapSymbol ss → length ss ≤ 500000 → symbols_of (map_text ss) ≡ Ok (map named ss)
reads_back ss keep few = (gives_its_symbols (map_text ss) (map named ss)).1 (names ss keep, rw length-map few)

-- a text of nothing has no symbols
pub nothing_reads : (text : List ℕ) → text ≡ [] → symbols_of text ≡ Ok []
unfolding map_text
nothing_reads text none = ap symbols_of none ∙ reads_back [] tt (omega arith)
