-- The format of map files as a relation: which lines are right, which symbols they name, and which line is the first that
-- isn't right. The words of a line are those of `words_of`.
use Rattle.std.specs.Prelude.{◌≡◌, ℕ, ◌+◌, ◌<◌, ◌≤◌, true, false, List, [], ◌∷◌, ◌++◌, length, Option, Some, None, Ok, Err, ◌↔◌}
use Rattle.mach_base.specs.Machine.{Symbol}
use Rattle.mach_base.specs.Lines.{lines_of, words_of, is_comment}
use Rattle.mach_base.specs.declared.limits.TheConstants.{MOST_SYMBOLS}
use Rattle.mach_base.specs.declared.event.What.TheVariants.{Symbols}
use Rattle.mach_base.specs.LineByLine.{EachSays}
use Rattle.sym_map.specs.declared.fault.MapFault.TheVariants.{Bad, TooLarge}
use Rattle.sym_map.specs.Reading.{is_undefined, symbol_of, symbols_of}

-- A line by its words, with the symbol that it names, if any: no word, or a comment; the type of a symbol without an
-- address, and its name; an address, a type and a name, and maybe the module that the symbol is in.
pub data IsMapLine : List (List ℕ) → Option Symbol → Type 0 where
  blank : IsMapLine [] None
  comment : (word : List ℕ) (words : List (List ℕ)) → is_comment word ≡ true → IsMapLine (word ∷ words) None
  undefined : (kind name : List ℕ) → is_comment kind ≡ false → is_undefined kind ≡ true → IsMapLine (kind ∷ name ∷ []) None
  named : (addr kind name : List ℕ) (s : Symbol) → is_comment addr ≡ false → symbol_of addr kind name ≡ Some s → IsMapLine (addr ∷ kind ∷ name ∷ []) (Some s)
  in_module : (addr kind name of_module : List ℕ) (s : Symbol) → is_comment addr ≡ false →
      symbol_of addr kind name ≡ Some s → IsMapLine (addr ∷ kind ∷ name ∷ of_module ∷ []) (Some s)

-- the symbols that lines name, in the order of the lines, each of which is right
abbrev pub Names : List (List ℕ) → List Symbol → Type 0
Names lines ss = EachSays IsMapLine lines ss

-- the line of this number, from 1, is the first that isn't right
pub record IsFirstBad (lines : List (List ℕ)) (number : ℕ) : Type 0 where
  pub before : List (List ℕ)
  pub line : List ℕ
  pub after : List (List ℕ)
  pub split : lines ≡ before ++ line ∷ after
  pub place : number ≡ length before + 1
  pub right : (symbols : List Symbol) × Names before symbols
  pub wrong : (s : Option Symbol) → ¬ (IsMapLine (words_of line) s)

-- a text gives symbols exactly where its lines name them and they aren't too many
abbrev pub GivesItsSymbols : Type 0
GivesItsSymbols =
    (text : List ℕ) (symbols : List Symbol) → (symbols_of text ≡ Ok symbols) ↔ (Names (lines_of text) symbols × (length symbols ≤ MOST_SYMBOLS))

-- a text is bad at a line exactly where that one is the first that isn't right
abbrev pub NamesTheFirstBadLine : Type 0
NamesTheFirstBadLine = (text : List ℕ) (number : ℕ) → (symbols_of text ≡ Err (Bad number)) ↔ IsFirstBad (lines_of text) number

-- the lines name more symbols than a map may have, and so many
pub record NameTooMany (lines : List (List ℕ)) (size : ℕ) : Type 0 where
  pub symbols : List Symbol
  pub names : Names lines symbols
  pub count : size ≡ length symbols
  pub many : MOST_SYMBOLS < size

-- a text is too large exactly where its lines name too many symbols
abbrev pub CountsItsSymbols : Type 0
CountsItsSymbols = (text : List ℕ) (size : ℕ) → (symbols_of text ≡ Err (TooLarge Symbols size)) ↔ NameTooMany (lines_of text) size
