-- Bits of a word, and numbers in two's complement.
use Rattle.std.specs.Prelude.{ℕ, ◌+◌, ◌-◌, ◌/◌, ◌%◌, ◌^◌, Bool, ◌==◌, nat_lt, if◌then◌else◌, ℤ, pos, negsuc}

-- the n bits from bit lo up, as a number
abbrev pub bits_at : ℕ → ℕ → ℕ → ℕ
bits_at word lo n = word / 2 ^ lo % 2 ^ n

-- bit k is 1
abbrev pub flag_at : ℕ → ℕ → Bool
flag_at word k = bits_at word k 1 == 1

-- the number that n bits stand for in two's complement
abbrev pub signed : ℕ → ℕ → ℤ
signed n v = if nat_lt v (2 ^ (n - 1)) then pos v else negsuc (2 ^ n - 1 - v)

-- z is a number of n bits in two's complement: -2^(n-1) to 2^(n-1) - 1
abbrev pub is_signed : ℕ → ℤ → Bool
is_signed n (pos v) = nat_lt v (2 ^ (n - 1))
is_signed n (negsuc v) = nat_lt v (2 ^ (n - 1))

-- z is a number of n bits without a sign: 0 to 2^n - 1
abbrev pub is_unsigned : ℕ → ℤ → Bool
is_unsigned n (pos v) = nat_lt v (2 ^ n)
is_unsigned n (negsuc v) = nat_lt v 0

-- z is a multiple of k
abbrev pub is_multiple : ℕ → ℤ → Bool
is_multiple k (pos v) = v % k == 0
is_multiple k (negsuc v) = (v + 1) % k == 0
