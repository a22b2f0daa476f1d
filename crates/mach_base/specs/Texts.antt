-- Texts that every part of the debugger prints.
use Rattle.std.specs.Prelude.{ℕ, List, [], ◌∷◌, ◌++◌, codes}
use Rattle.mach_base.specs.Number.{hex_text}

-- the end of a line
abbrev pub newline : List ℕ
newline = 10 ∷ []

-- an address: 0x and 16 digits
unfoldable pub address_text : ℕ → List ℕ
address_text addr = codes "0x" ++ hex_text 16 addr
