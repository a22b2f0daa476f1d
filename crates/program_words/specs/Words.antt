-- The grammar of a command's words: its operands in their order, and options anywhere among them.
use Rattle.std.specs.Prelude.{ℕ, ◌+◌, ◌==◌, ◌&&◌, Bool, true, not, List, [], ◌∷◌, ◌++◌, map, length, find, slice_get, nat_lt, nat_le, Option, Some, None, option_map, option_and_then, if◌then◌else◌}
use Rattle.std.specs.List.{list_all, list_any, before_first, after_first}
use Rattle.std.specs.Char.{digit_value}
use Rattle.std.specs.Str.{bytes_eq}
use Rattle.std.specs.Str.Parse.{digits_value, without_leading_plus}

-- a word is its bytes
abbrev pub Text : Type 0
Text = List ℕ

-- ---- a command's row

-- what an operand or an option takes: any word, or a number within bounds
pub data Value : Type 0 where
  any_word : Value
  number : ℕ → ℕ → Value

-- an operand or an option
pub record Parameter : Type 0 where
  pub name : Text
  pub value : Value

-- a command: its word, its operands in their order, and its options
pub record Row : Type 0 where
  pub word : Text
  pub operands : List Parameter
  pub options : List Parameter

-- ---- what a word looks like

-- no option: an operand, or the value of an option; `--`; `--name` or `--name=value`; any other word that begins with a dash
pub data Kind : Type 0 where
  plain : Kind
  dashes : Kind
  named : Text → Option Text → Kind
  unknown : Kind

-- whether the byte is `=`
abbrev pub is_equals : ℕ → Bool
is_equals b = b == 61

-- what follows `--`: the name of an option up to the first `=`, and its value after it
abbrev pub kind_after_dashes : Text → Kind
kind_after_dashes [] = dashes
kind_after_dashes (b ∷ bs) =
    named (before_first is_equals (b ∷ bs)) (if list_any is_equals (b ∷ bs) then Some (after_first is_equals (b ∷ bs)) else None)

-- what follows a dash (45); a dash alone is plain
abbrev pub kind_after_dash : Text → Kind
kind_after_dash [] = plain
kind_after_dash (b ∷ bs) = if b == 45 then kind_after_dashes bs else unknown

-- the kind of a word: plain, `--` alone, a named option with or without its value, or unknown
abbrev pub kind : Text → Kind
kind [] = plain
kind (b ∷ bs) = if b == 45 then kind_after_dash bs else plain

-- ---- the items of the words

-- an operand, or an option by its name with its value
pub data Item : Type 0 where
  operand : Text → Item
  option : Text → Text → Item

-- one item before the others
abbrev pub and_then_items : Item → Option (List Item) → Option (List Item)
and_then_items i rest = option_map (λ is. i ∷ is) rest

-- the value of the named option is this word, where it is plain
abbrev pub valued : Text → Kind → Text → Option (List Item) → Option (List Item)
valued name plain word rest = and_then_items (option name word) rest
valued name _ word rest = None

-- the items from a word of this kind on; `next` gives those of the words after it, where an option may want its value
abbrev pub items_from : Kind → Text → List Text → (Option Text → Option (List Item)) → Option (List Item)
items_from plain word rest next = and_then_items (operand word) (next None)
items_from dashes word rest next = Some (map operand rest)
items_from (named name None) word rest next = next (Some name)
items_from (named name (Some value)) word rest next = and_then_items (option name value) (next None)
items_from unknown word rest next = None

-- The items that the words are, if they are any: after `--` each word is an operand. The option that wants its value, if
-- one does, was named by the word before.
unfoldable pub items : Option Text → List Text → Option (List Item)
items None [] = Some []
items (Some name) [] = None
items None (word ∷ rest) = items_from (kind word) word rest (λ wanting. items wanting rest)
items (Some name) (word ∷ rest) = valued name (kind word) word (items None rest)

-- ---- the arguments of a command

-- a number in decimal digits, with leading zeros allowed and a plus before them, within the bounds
abbrev pub is_number_in : ℕ → ℕ → Text → Bool
is_number_in low high word =
    let digits = without_leading_plus word in
    (nat_lt 0 (length digits) && list_all (λ d. nat_lt (digit_value d) 10) digits)
    && (nat_le low (digits_value 10 digits) && nat_le (digits_value 10 digits) high)

-- the word is such a value
abbrev pub fits : Value → Text → Bool
fits any_word word = true
fits (number low high) word = is_number_in low high word

-- the name of an operand or an option, and its value
abbrev pub Argument : Type 0
Argument = Text × Text

-- whether one of the arguments has this name
abbrev pub is_given : Text → List Argument → Bool
is_given name given = list_any (λ a. bytes_eq a.0 name) given

-- the arguments with one more, which fits and isn't there yet
abbrev pub with_argument : List Argument → Text → Option Parameter → Option (List Argument)
with_argument given value None = None
with_argument given value (Some p) =
    if not (is_given p.name given) && fits p.value value then Some (given ++ (p.name, value) ∷ []) else None

-- what an item is an argument of, after so many operands: the next operand, or the option of its name
abbrev pub parameter_of : Row → ℕ → Item → Option Parameter
parameter_of row before (operand value) = slice_get row.operands before
parameter_of row before (option name value) = find (λ p. bytes_eq p.name name) row.options

-- the value of an operand or an option
abbrev pub value_of : Item → Text
value_of (operand value) = value
value_of (option name value) = value

-- how many operands there are after the item, with so many before it
abbrev pub operands_after : ℕ → Item → ℕ
operands_after before (operand value) = before + 1
operands_after before (option name value) = before

-- the arguments of the items, after those already given with so many operands: each operand has to be there
unfoldable pub arguments : Row → List Argument → ℕ → List Item → Option (List Argument)
arguments row given before [] = if list_all (λ p. is_given p.name given) row.operands then Some given else None
arguments row given before (item ∷ rest) =
    option_and_then (λ more. arguments row more (operands_after before item) rest) (with_argument given (value_of item) (parameter_of row before item))

-- The arguments that the words give the command of this row, if they are right for it.
abbrev pub arguments_of : Row → List Text → Option (List Argument)
arguments_of row words = option_and_then (arguments row [] 0) (items None words)

-- the value of a name among the arguments
abbrev pub argument : Text → List Argument → Option Text
argument name given = option_map (λ a. a.1) (find (λ a. bytes_eq a.0 name) given)

-- The row and the arguments of the words, which are the command's word and then words that are right for it.
abbrev pub row_and_arguments : List Row → List Text → Option (Row × List Argument)
row_and_arguments table [] = None
row_and_arguments table (word ∷ words) =
    option_and_then (λ row. option_map (λ given. (row, given)) (arguments_of row words)) (find (λ r. bytes_eq r.word word) table)
