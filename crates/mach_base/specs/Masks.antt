-- Masks. A set of harts or of breakpoint places is a mask, with bit k for number k.
use Rattle.std.specs.Prelude.{ℕ, suc, zero, ◌+◌, ◌-◌, ◌^◌, ◌==◌, Bool, bit_or, bit_xor, Option, Some, None, if◌then◌else◌}
use Rattle.std.specs.Int.{bit_at, trailing_zeros, w64}

-- whether the mask has this number
unfoldable pub has_bit : ℕ → ℕ → Bool
has_bit mask number = bit_at mask number == 1

-- the mask with this number too
unfoldable pub mask_with : ℕ → ℕ → ℕ
mask_with mask number = bit_or mask (2 ^ number)

-- the mask without this number, which it has
unfoldable pub mask_without : ℕ → ℕ → ℕ
mask_without mask number = bit_xor mask (2 ^ number)

-- the mask of all of so many numbers but those of this mask
unfoldable pub all_but : ℕ → ℕ → ℕ
all_but count mask = bit_xor (2 ^ count - 1) mask

-- the least number of a mask that isn't 0
unfoldable pub least : ℕ → ℕ
least mask = trailing_zeros w64 mask

-- the least of so many numbers, from this one on, that the mask hasn't
abbrev pub least_outside : ℕ → ℕ → ℕ → Option ℕ
least_outside zero from mask = None
least_outside (suc count) from mask = if has_bit mask from then least_outside count (from + 1) mask else Some from
