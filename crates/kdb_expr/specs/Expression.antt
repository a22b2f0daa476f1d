-- Expressions of the debugger. docs/debugger.md, "Expressions", has the rules.
use Rattle.std.specs.Prelude.{ℕ, ◌+◌, ◌-◌, ◌%◌, ◌^◌, ◌==◌, ◌||◌, Bool, false, List, [], ◌∷◌, drop, take, position, slice_index, Option, Some, None, is_some, Result, Ok, Err, if◌then◌else◌}
use Rattle.std.specs.Char.{is_digit}
use Rattle.mach_base.specs.Number.{number_of}
use Rattle.mach_base.specs.declared.number.NumFault.{NumFault}
use Rattle.kdb_expr.specs.declared.eval_fault.EvalFault.{EvalFault}
use Rattle.kdb_expr.specs.declared.eval_fault.EvalFault.TheVariants.{NotFound, BadNumber, BadReg}

-- what an expression can name, and the radix in which its numbers are read
pub record Scope : Type 0 where
  pub symbols : List ℕ → Option ℕ
  pub registers : List ℕ → Option ℕ
  pub variables : List ℕ → Option (List ℕ)
  pub radix : ℕ

-- + or -
abbrev pub is_sign : ℕ → Bool
is_sign b = (b == 43) || (b == 45)

-- the place of the first + or - after the first byte, counted from the second byte on
abbrev pub sign_place : List ℕ → Option ℕ
sign_place word = position is_sign (drop 1 word)

-- whether the first byte is %
abbrev pub is_percent_first : List ℕ → Bool
is_percent_first [] = false
is_percent_first (b ∷ bs) = b == 37

-- the register of a name that follows a %; a second % is no part of a name
abbrev pub register_value : (List ℕ → Option ℕ) → List ℕ → Option ℕ
register_value registers name = if is_percent_first name then None else registers name

-- that value, or this refusal where there is none
abbrev pub found_or : EvalFault → Option ℕ → Result ℕ EvalFault
found_or fault None = Err fault
found_or fault (Some value) = Ok value

-- the number that was read, or this refusal
abbrev pub number_or : EvalFault → Result ℕ NumFault → Result ℕ EvalFault
number_or fault (Ok value) = Ok value
number_or fault (Err why) = Err fault

-- the number in decimal that a variable's value is
abbrev pub variable_number : Option (List ℕ) → Result ℕ EvalFault
variable_number None = Err NotFound
variable_number (Some text) = number_or BadNumber (number_of 10 text)

-- the symbol of this name; none where the name has + or - after its first byte
abbrev pub symbol_value : (List ℕ → Option ℕ) → List ℕ → Option ℕ
symbol_value symbols name = if is_some (sign_place name) then None else symbols name

-- what an atom is refused for that is neither a symbol nor a number: a number is meant where a decimal digit is first
abbrev pub refusal : ℕ → EvalFault
refusal first = if is_digit first 10 then BadNumber else NotFound

-- a symbol, else a number
abbrev pub symbol_or : Option ℕ → Result ℕ EvalFault → Result ℕ EvalFault
symbol_or (Some value) number = Ok value
symbol_or None number = number

-- The value of an atom: a register after %, a variable after $, else a symbol, else a number.
unfoldable pub atom_value : Scope → List ℕ → Result ℕ EvalFault
atom_value scope [] = Err BadNumber
atom_value scope (b ∷ bs) =
    if b == 37 then found_or BadReg (register_value scope.registers bs)
    else (if b == 36 then variable_number (scope.variables bs)
    else symbol_or (symbol_value scope.symbols (b ∷ bs)) (number_or (refusal b) (number_of scope.radix (b ∷ bs))))

-- the sum or the difference, modulo 2^64
abbrev pub wrapped : ℕ → ℕ → ℕ → ℕ
wrapped sign a b = if sign == 43 then (a + b) % 2 ^ 64 else (a + (2 ^ 64 - b)) % 2 ^ 64

-- both values put together by the sign; the left one's refusal comes first
abbrev pub combined : ℕ → Result ℕ EvalFault → Result ℕ EvalFault → Result ℕ EvalFault
combined sign (Err fault) right = Err fault
combined sign (Ok a) (Err fault) = Err fault
combined sign (Ok a) (Ok b) = Ok (wrapped sign a b)

-- the value of a word whose first sign after its first byte is at this place
abbrev pub value_at : Scope → List ℕ → Option ℕ → Result ℕ EvalFault
value_at scope word None = atom_value scope word
value_at scope word (Some i) =
    combined (slice_index word (i + 1)) (atom_value scope (take (i + 1) word)) (atom_value scope (drop (i + 2) word))

-- The value of a word: one atom, or two with the first + or - after the word's first byte between them.
unfoldable pub value_of : Scope → List ℕ → Result ℕ EvalFault
value_of scope word = value_at scope word (sign_place word)
