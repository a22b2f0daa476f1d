-- The processors in a session are processors of the machine.
use Rattle.std.proofs.Common.{◌≡◌, ℕ, ◌^◌, ◌<◌, true, ap}
use Rattle.mach_base.specs.Masks.{has_bit}
use Rattle.mach_base.proofs.Bits.{has_bit-below}

-- a mask below a power of two has no bit from the power's number on
pub gathered_there : (gathered n count : ℕ) → gathered < 2 ^ count → has_bit gathered n ≡ true → n < count
gathered_there gathered n count below is = has_bit-below gathered count n below is

-- processor 0 is one of the first two
pub first_of_two : (n : ℕ) → n ≡ 0 → has_bit 3 n ≡ true
unfolding has_bit
first_of_two n is = ap (has_bit 3) is
