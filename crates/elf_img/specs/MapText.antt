-- Symbols as the text of a map.
use Rattle.std.specs.Prelude.{ℕ, ◌^◌, ◌<◌, ◌≤◌, Bool, true, false, List, [], ◌∷◌, ◌++◌, length}
use Rattle.std.specs.List.{flat_map, AllByRecursion}
use Rattle.mach_base.specs.Machine.{Symbol}
use Rattle.mach_base.specs.Number.{hex_text}

-- a symbol of a map: its address, whether it is a function, and its name
pub record MapSymbol : Type 0 where
  pub address : ℕ
  pub is_function : Bool
  pub name : List ℕ

-- what each symbol of a map keeps: its address fits 64 bits, and its name is a word of 1 to 255 bytes
pub record IsMapSymbol (s : MapSymbol) : Type 0 where
  pub fits : s.address < 2 ^ 64
  pub some : 0 < length s.name
  pub short : length s.name ≤ 255
  pub word : AllByRecursion (λ b. 32 < b) s.name

-- the symbol as a map that is read has it
abbrev pub named : MapSymbol → Symbol
named s = record { addr = s.address; name = s.name }

-- the letter of a symbol's type: T for a function, D for all else
abbrev pub letter_of : Bool → ℕ
letter_of true = 84
letter_of false = 68

-- the line of a symbol: 16 digits, the letter and the name, with a blank between them
unfoldable pub symbol_line : MapSymbol → List ℕ
symbol_line s = hex_text 16 s.address ++ (32 ∷ letter_of s.is_function ∷ 32 ∷ (s.name ++ 10 ∷ []))

-- the lines of the symbols
unfoldable pub map_text : List MapSymbol → List ℕ
map_text symbols = flat_map symbol_line symbols
