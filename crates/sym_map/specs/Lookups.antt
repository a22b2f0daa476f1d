-- Symbols, in the order of their file: the address of a name, and the symbol that an address is near.
use Rattle.std.specs.Prelude.{ℕ, ◌+◌, ◌-◌, ◌≤◌, ◌==◌, Bool, List, [], ◌∷◌, max, Option, Some, None, find, nat_lt, nat_le, if◌then◌else◌}
use Rattle.std.specs.Option.{option_map}
use Rattle.std.specs.List.{AllByRecursion}
use Rattle.std.specs.Str.{bytes_eq}
use Rattle.mach_base.specs.Machine.{Symbol}

-- whether the symbol has this name
abbrev pub is_named : List ℕ → Symbol → Bool
is_named name s = bytes_eq name s.name

-- whether the symbol has this address
abbrev pub is_at : ℕ → Symbol → Bool
is_at addr s = s.addr == addr

-- the address of the first symbol of a name
abbrev pub addr_of : List Symbol → List ℕ → Option ℕ
addr_of symbols name = option_map (λ s. s.addr) (find (is_named name) symbols)

-- the greater of an address and one that may be there
abbrev pub greater : ℕ → Option ℕ → ℕ
greater addr None = addr
greater addr (Some other) = max addr other

-- the greatest address of a symbol that is not above this one
abbrev pub floor_of : List Symbol → ℕ → Option ℕ
floor_of [] addr = None
floor_of (s ∷ ss) addr = if nat_le s.addr addr then Some (greater s.addr (floor_of ss addr)) else floor_of ss addr

-- the first symbol at that floor with how far the address is above it, where that is below 0x100000
abbrev pub from_floor : List Symbol → ℕ → Option ℕ → Option (List ℕ × ℕ)
from_floor symbols addr None = None
from_floor symbols addr (Some floor) =
    if nat_lt (addr - floor) 1048576 then option_map (λ s. (s.name, addr - floor)) (find (is_at floor) symbols) else None

-- The name of the symbol that an address is near, and how far the address is above it: of the symbols whose address is
-- the greatest that is not above it the first.
unfoldable pub near_of : List Symbol → ℕ → Option (List ℕ × ℕ)
near_of symbols addr = from_floor symbols addr (floor_of symbols addr)

-- each symbol that isn't above the address is at least so far below it
abbrev pub AreBelow : ℕ → ℕ → List Symbol → Type 0
AreBelow addr distance symbols = AllByRecursion (λ s. s.addr ≤ addr → s.addr + distance ≤ addr) symbols
