-- Numbers in memory. They are little-endian: the byte at an address counts less than the byte at the next one.
use Rattle.std.specs.Prelude.{◌≡◌, ℕ, zero, suc, ◌+◌, ◌*◌, ◌/◌, ◌%◌, ◌^◌, ◌⊎◌, ◌&&◌, Bool, true, is_some}
use Rattle.std.specs.Option.{unwrap_or}
use Rattle.std.specs.Ordering.{nat_cmp}
use Rattle.std.specs.FinMap.{FinMap, insert}
use Rattle.mach_base.specs.Machine.{Memory, byte_at}

-- the widths of accesses and of words, in bytes
abbrev pub IsWidth : ℕ → Type 0
IsWidth width = (width ≡ 1) ⊎ (width ≡ 2) ⊎ (width ≡ 4) ⊎ (width ≡ 8)

-- whether a byte is mapped at the address
abbrev pub is_mapped : Memory → ℕ → Bool
is_mapped m addr = is_some (byte_at m addr)

-- whether each of so many addresses from this one on passes the test
abbrev pub all_bytes : (ℕ → Bool) → ℕ → ℕ → Bool
all_bytes test addr zero = true
all_bytes test addr (suc n) = all_bytes test addr n && test (addr + n)

-- the byte at the address; 0 where nothing is mapped
abbrev pub byte_or_zero : Memory → ℕ → ℕ
byte_or_zero m addr = unwrap_or (byte_at m addr) 0

-- the number that so many bytes from the address on spell, where the byte at `addr + k` counts 256^k
abbrev pub number_in : Memory → ℕ → ℕ → ℕ
number_in m addr zero = 0
number_in m addr (suc n) = number_in m addr n + byte_or_zero m (addr + n) * 256 ^ n

-- the byte of this number, counted from the lowest, of a value
abbrev pub byte_of : ℕ → ℕ → ℕ
byte_of value k = value / 2 ^ (8 * k) % 256

-- the map in which the lowest `width` bytes of the value stand from the address on
abbrev pub with_bytes : FinMap nat_cmp ℕ → ℕ → ℕ → ℕ → FinMap nat_cmp ℕ
with_bytes bytes addr zero value = bytes
with_bytes bytes addr (suc n) value = insert (with_bytes bytes addr n value) (addr + n) (byte_of value n)

-- the memory in which they stand
abbrev pub with_value : Memory → ℕ → ℕ → ℕ → Memory
with_value m addr width value = record m { bytes = with_bytes m.bytes addr width value }
