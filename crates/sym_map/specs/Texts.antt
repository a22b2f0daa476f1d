-- Texts that name the symbol which an address is near.
use Rattle.std.specs.Prelude.{ℕ, zero, suc, List, [], ◌++◌, length, codes, Option, Some, None}
use Rattle.std.specs.Int.Digits.{digits_of}
use Rattle.mach_base.specs.Machine.{Symbol}
use Rattle.mach_base.specs.Number.{hex_text}
use Rattle.mach_base.specs.Texts.{address_text}
use Rattle.sym_map.specs.Lookups.{near_of}

-- how many hexadecimal digits a number above 0 has
abbrev pub digit_count : ℕ → ℕ
digit_count n = length (digits_of 16 n)

-- how far an address is above a symbol; nothing where it is the symbol's own
unfoldable pub offset_text : ℕ → List ℕ
offset_text zero = []
offset_text (suc n) = codes "+0x" ++ hex_text (digit_count (suc n)) (suc n)

-- the name of a symbol that was found, and the offset, in round brackets after a blank
unfoldable pub near_text : Option (List ℕ × ℕ) → List ℕ
near_text None = []
near_text (Some near) = codes " (" ++ (near.0 ++ (offset_text near.1 ++ codes ")"))

-- the symbol that an address is near
abbrev pub name_text : List Symbol → ℕ → List ℕ
name_text symbols addr = near_text (near_of symbols addr)

-- a place: the address, and the symbol that it is near
abbrev pub place_text : List Symbol → ℕ → List ℕ
place_text symbols addr = address_text addr ++ name_text symbols addr
