-- The reservations that the harts hold (RISC-V unprivileged specification, "Load-Reserved/Store-Conditional
-- Instructions"). Their granularity is 8 bytes.
use Rattle.std.specs.Prelude.{ℕ, ◌/◌, ◌&&◌, Bool, false, List, map, Option, Some, None, nat_le, if◌then◌else◌}
use Rattle.mach_base.specs.Machine.{Context}

-- the granule of 8 bytes that holds the address, by its number
abbrev pub granule_of : ℕ → ℕ
granule_of addr = addr / 8

-- whether the reservation is on one of the granules from the first to the last
abbrev pub is_among : ℕ → ℕ → Option ℕ → Bool
is_among first last None = false
is_among first last (Some granule) = nat_le first granule && nat_le granule last

-- the context without its reservation, where that is on one of these granules
abbrev pub without_reservation : ℕ → ℕ → Context → Context
without_reservation first last c = if is_among first last c.reservation then record c { reservation = None } else c

-- the contexts without the reservations on these granules
abbrev pub without_reservations : ℕ → ℕ → List Context → List Context
without_reservations first last cs = map (without_reservation first last) cs
