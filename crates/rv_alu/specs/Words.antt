-- Operations on words of 32 or 64 bits, in the words of the unprivileged specification's chapters on RV32I, RV64I
-- and M. A word is a number below 2^32 or 2^64; `cast_signed` reads it in two's complement.
use Rattle.std.specs.Prelude.{ℕ, ◌+◌, ◌-◌, ◌*◌, ◌/◌, ◌%◌, ◌^◌, ◌&&◌, ◌==◌, nat_lt, if◌then◌else◌, ℤ, int_lt, int_div, int_rem}
use Rattle.std.specs.Int.{Width, w32, w64, cast_signed, cast_unsigned, int_shr}
use mir.Val.{bits, hbits}

-- the low 32 bits
abbrev pub low : ℕ → ℕ
low a = a % 2 ^ 32

-- a word of 32 bits with its sign carried on to 64
abbrev pub sign_extended : ℕ → ℕ
sign_extended a = cast_unsigned w64 (cast_signed w32 a)

-- sums, differences and products modulo 2^32 or 2^64
abbrev pub sum : Width → ℕ → ℕ → ℕ
sum w a b = (a + b) % 2 ^ bits w

-- the difference, modulo 2 to the width
abbrev pub difference : Width → ℕ → ℕ → ℕ
difference w a b = (a + (2 ^ bits w - b)) % 2 ^ bits w

-- the product, modulo 2 to the width
abbrev pub product : Width → ℕ → ℕ → ℕ
product w a b = a * b % 2 ^ bits w

-- the amount of a shift: the low 5 or 6 bits
abbrev pub amount : Width → ℕ → ℕ
amount w b = b % bits w

-- the number shifted left
abbrev pub left_shift : Width → ℕ → ℕ → ℕ
left_shift w a b = a * 2 ^ amount w b % 2 ^ bits w

-- the number shifted right, zeros coming in
abbrev pub right_shift : Width → ℕ → ℕ → ℕ
right_shift w a b = a / 2 ^ amount w b

-- the shift that keeps the sign
abbrev pub shifted_right_signed : Width → ℕ → ℕ → ℕ
shifted_right_signed w a b = cast_unsigned w (int_shr (cast_signed w a) (amount w b))

-- the high 64 bits of an integer of 128
abbrev pub high_half : ℤ → ℕ
high_half z = cast_unsigned w64 (int_shr z 64)

-- the quotient rounded toward zero; all ones where b is 0; the least number where it is divided by -1
abbrev pub quotient : Width → ℕ → ℕ → ℕ
quotient w a b =
    if b == 0 then 2 ^ bits w - 1
    else (if (a == 2 ^ hbits w) && (b == 2 ^ bits w - 1) then a
    else cast_unsigned w (int_div (cast_signed w a) (cast_signed w b)))

-- what that quotient leaves, with the sign of a; a where b is 0; 0 where the least number is divided by -1
abbrev pub remainder : Width → ℕ → ℕ → ℕ
remainder w a b =
    if b == 0 then a
    else (if (a == 2 ^ hbits w) && (b == 2 ^ bits w - 1) then 0
    else cast_unsigned w (int_rem (cast_signed w a) (cast_signed w b)))

-- the same without signs
abbrev pub quotient_unsigned : Width → ℕ → ℕ → ℕ
quotient_unsigned w a b = if b == 0 then 2 ^ bits w - 1 else a / b

-- the remainder of unsigned numbers; by 0 it is the dividend
abbrev pub remainder_unsigned : ℕ → ℕ → ℕ
remainder_unsigned a b = if b == 0 then a else a % b

-- the lesser and the greater of two words, by their signed and by their unsigned order
abbrev pub least : Width → ℕ → ℕ → ℕ
least w a b = if int_lt (cast_signed w b) (cast_signed w a) then b else a

-- the greater of the two by their signed order
abbrev pub greatest : Width → ℕ → ℕ → ℕ
greatest w a b = if int_lt (cast_signed w a) (cast_signed w b) then b else a

-- the lesser of the two by their unsigned order
abbrev pub least_unsigned : ℕ → ℕ → ℕ
least_unsigned a b = if nat_lt b a then b else a

-- the greater of the two by their unsigned order
abbrev pub greatest_unsigned : ℕ → ℕ → ℕ
greatest_unsigned a b = if nat_lt a b then b else a
