-- Ranges of memory. Addresses are natural numbers here: a range that would run past 2^64 ends there at the latest, since
-- no address from 2^63 on is mapped.
use Rattle.std.specs.Prelude.{ℕ, ◌%◌, ◌==◌, Bool, Option, Some, is_none, find, if◌then◌else◌}
use Rattle.std.specs.List.{range_with_len}
use Rattle.mach_base.specs.Machine.{Memory, byte_at}

-- whether nothing is mapped at the address
abbrev pub is_unmapped : Memory → ℕ → Bool
is_unmapped m addr = is_none (byte_at m addr)

-- the first unmapped address of this many from an address on
abbrev pub first_unmapped : Memory → ℕ → ℕ → Option ℕ
first_unmapped m addr len = find (is_unmapped m) (range_with_len addr len)

-- the address at which instructions of so many bytes in all are refused: their first, where it is no multiple of 4; else
-- the first unmapped one
abbrev pub first_refused : Memory → ℕ → ℕ → Option ℕ
first_refused m addr len = if addr % 4 == 0 then first_unmapped m addr len else Some addr
