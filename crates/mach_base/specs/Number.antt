-- Numbers as they are read and printed.
use Rattle.std.specs.Prelude.{ℕ, zero, suc, ◌+◌, ◌/◌, ◌%◌, ◌^◌, ◌==◌, ◌&&◌, ◌||◌, Bool, false, not, List, [], ◌∷◌, ◌++◌, drop, Option, Some, None, Result, Ok, Err, nat_lt, position, if◌then◌else◌}
use Rattle.std.specs.Char.{is_digit, digit_char}
use Rattle.std.specs.Str.Parse.{digits_value}
use Rattle.std.specs.Fmt.{decimal}
use Rattle.mach_base.specs.declared.number.NumFault.{NumFault}
use Rattle.mach_base.specs.declared.number.NumFault.TheVariants.{Empty, BadDigit, TooLarge}

-- whether the text begins with 0x or 0X
abbrev pub has_prefix : List ℕ → Bool
has_prefix [] = false
has_prefix (a ∷ []) = false
has_prefix (a ∷ b ∷ rest) = (a == 48) && ((b == 120) || (b == 88))

-- the place of the first byte that is no digit in this radix
abbrev pub first_bad : ℕ → List ℕ → Option ℕ
first_bad radix digits = position (λ c. not (is_digit c radix)) digits

-- the value of digits that are all right, if it fits 64 bits
abbrev pub fitting : ℕ → Result ℕ NumFault
fitting value = if nat_lt value (2 ^ 64) then Ok value else Err TooLarge

-- the value of the digits, or the fault of the byte at this place, which is no digit
abbrev pub value_or_fault : ℕ → ℕ → List ℕ → Option ℕ → Result ℕ NumFault
value_or_fault radix start digits None = fitting (digits_value radix digits)
value_or_fault radix start digits (Some k) = Err (BadDigit (start + k))

-- the number that the digits write, where the text began `start` bytes before them
abbrev pub number_from : ℕ → ℕ → List ℕ → Result ℕ NumFault
number_from radix start [] = Err Empty
number_from radix start (d ∷ ds) = value_or_fault radix start (d ∷ ds) (first_bad radix (d ∷ ds))

-- the number that the text writes: hexadecimal after 0x or 0X, else in the radix
abbrev pub number_of : ℕ → List ℕ → Result ℕ NumFault
number_of radix text =
    if has_prefix text then number_from 16 2 (drop 2 text) else number_from radix 0 text

-- this many hexadecimal digits of the number, the last one for its lowest four bits
abbrev pub hex_text : ℕ → ℕ → List ℕ
hex_text zero value = []
hex_text (suc digits) value = hex_text digits (value / 16) ++ digit_char (value % 16) ∷ []

-- the number in decimal digits without leading zeros
abbrev pub dec_text : ℕ → List ℕ
dec_text value = decimal value
