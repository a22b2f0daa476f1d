-- The debugger's variables. docs/debugger.md, "Variables", has the rules.
use Rattle.std.specs.Prelude.{◌≡◌, ℕ, ◌&&◌, ◌||◌, ◌==◌, Bool, true, false, not, List, [], ◌∷◌, length, Option, Some, None, Result, Ok, Err, is_some, is_none, nat_le, codes, unwrap_or, if◌then◌else◌}
use Rattle.std.specs.List.{list_all, AllByRecursion}
use Rattle.std.specs.Option.{option_or}
use Rattle.std.specs.Str.{bytes_eq}
use Rattle.mach_base.specs.Number.{number_of}
use Rattle.mach_base.specs.declared.number.NumFault.{NumFault}
use Rattle.mach_base.specs.declared.limits.TheConstants.{MOST_VARIABLES}
use Rattle.kdb_env.specs.declared.env_fault.EnvFault.{EnvFault}
use Rattle.kdb_env.specs.declared.env_fault.EnvFault.TheVariants.{BadName, BadRadix, BadWidth, BadCount, Full}

-- names with their values, in the order in which they were first set
abbrev pub Variables : Type 0
Variables = List (List ℕ × List ℕ)

-- the value of a name, if it is set
abbrev pub value_of : Variables → List ℕ → Option (List ℕ)
value_of [] name = None
value_of (v ∷ vs) name = if bytes_eq name v.0 then Some v.1 else value_of vs name

-- the variables once a name has this value: in its own place, or after all others where it is new
abbrev pub with_value : Variables → List ℕ → List ℕ → Variables
with_value [] name value = (name, value) ∷ []
with_value (v ∷ vs) name value = if bytes_eq name v.0 then (v.0, value) ∷ vs else v ∷ with_value vs name value

-- a letter of ASCII
abbrev pub is_letter : ℕ → Bool
is_letter b = (nat_le 65 b && nat_le b 90) || (nat_le 97 b && nat_le b 122)

-- a letter, a digit or _
abbrev pub is_name_byte : ℕ → Bool
is_name_byte b = is_letter b || (nat_le 48 b && nat_le b 57) || (b == 95)

-- a letter and then letters, digits or _, 16 bytes at most
abbrev pub is_name : List ℕ → Bool
is_name [] = false
is_name (b ∷ bs) = is_letter b && list_all is_name_byte bs && nat_le (length bs) 15

-- 8, 10 or 16
abbrev pub is_radix : List ℕ → Bool
is_radix value = bytes_eq value (codes "8") || bytes_eq value (codes "10") || bytes_eq value (codes "16")

-- 1, 2, 4 or 8
abbrev pub is_width : List ℕ → Bool
is_width value = bytes_eq value (codes "1") || bytes_eq value (codes "2") || bytes_eq value (codes "4") || bytes_eq value (codes "8")

-- whether a number was read that is from 1 to 256
abbrev pub counts : Result ℕ NumFault → Bool
counts (Ok n) = nat_le 1 n && nat_le n 256
counts (Err fault) = false

-- a number from 1 to 256, in decimal
abbrev pub is_count : List ℕ → Bool
is_count value = counts (number_of 10 value)

-- why a value isn't one for a name: three names take only some values
unfoldable pub value_fault : List ℕ → List ℕ → Option EnvFault
value_fault name value =
    if bytes_eq name (codes "RADIX") then (if is_radix value then None else Some BadRadix)
    else if bytes_eq name (codes "BYTESPERWORD") then (if is_width value then None else Some BadWidth)
    else if bytes_eq name (codes "MDCOUNT") then (if is_count value then None else Some BadCount)
    else None

-- whether there is no room for a name: it is new, and there are as many variables as there may be
abbrev pub is_full : Variables → List ℕ → Bool
is_full vars name = is_none (value_of vars name) && nat_le MOST_VARIABLES (length vars)

-- the first refusal of a name and a value
abbrev pub refusal_of : Variables → List ℕ → List ℕ → Option EnvFault
refusal_of vars name value =
    if not (is_name name) then Some BadName
    else option_or (value_fault name value) (if is_full vars name then Some Full else None)

-- the variables at the start
unfoldable pub defaults : Variables
defaults = (codes "PROMPT", codes "[%d]kdb> ") ∷ (codes "RADIX", codes "16") ∷ (codes "MDCOUNT", codes "8") ∷ (codes "BYTESPERWORD", codes "8") ∷ (codes "LINES", codes "24") ∷ []

-- the number that a variable's value is, in decimal
unfoldable pub number_at : Variables → List ℕ → Result ℕ NumFault
number_at vars name = number_of 10 (unwrap_or (value_of vars name) [])

-- whether no name is there twice
abbrev pub are_apart : Variables → Bool
are_apart [] = true
are_apart (v ∷ vs) = is_none (value_of vs v.0) && are_apart vs

-- Variables as they can be: not too many, with names that are names and differ, each with a value that its name takes,
-- and the three with checked values among them.
pub record AreVariables (vars : Variables) : Type 0 where
  pub few : nat_le (length vars) MOST_VARIABLES ≡ true
  pub named : list_all (λ v. is_name v.0) vars ≡ true
  pub apart : are_apart vars ≡ true
  pub allowed : AllByRecursion (λ v. value_fault v.0 v.1 ≡ None) vars
  pub radix : is_some (value_of vars (codes "RADIX")) ≡ true
  pub width : is_some (value_of vars (codes "BYTESPERWORD")) ≡ true
  pub count : is_some (value_of vars (codes "MDCOUNT")) ≡ true
