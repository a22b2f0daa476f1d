-- What is a wrong use of the program, and what the command uni takes.
use Rattle.std.specs.Prelude.{◌≡◌, ◌≤◌, ℕ, Bool, true, false, List, [], ◌∷◌, codes, find, slice_get, Option, Some, None}
use Rattle.std.specs.List.{list_all}
use Rattle.std.specs.Str.{bytes_eq}
use Rattle.program_words.specs.Words.{Text, Kind, plain, kind, Parameter, Row, Item, operand, option, Argument, arguments, fits, is_given}
use Rattle.program_words.specs.Rows.{command_rows}
use Rattle.mach_base.specs.declared.limits.TheConstants.{MOST_HARTS, MOST_ROUNDS, MOST_STEPS}
use Rattle.program_words.specs.declared.request.Options.{Options}
use Rattle.program_words.specs.Commands.{Command, uni, replay, run, lockstep, asm, elf, load, command_of, request_of}

-- the option of this name
abbrev option_of : Row → Text → Option Parameter
option_of row name = find (λ p. bytes_eq p.name name) row.options

-- Each of these is a wrong use.
pub record WrongUses : Type 0 where
  -- no words
  pub no_words : command_of [] ≡ None
  -- a first word that is no command's
  pub unknown_command : (word : Text) (words : List Text) → find (λ r. bytes_eq r.word word) command_rows ≡ None → command_of (word ∷ words) ≡ None
  -- too few operands: one of them isn't given
  pub too_few : (row : Row) (given : List Argument) (before : ℕ) → list_all (λ p. is_given p.name given) row.operands ≡ false → arguments row given before [] ≡ None
  -- too many operands
  pub too_many : (row : Row) (given : List Argument) (before : ℕ) (value : Text) (rest : List Item) → slice_get row.operands before ≡ None
      → arguments row given before (operand value ∷ rest) ≡ None
  -- an option that the command lacks
  pub unknown_option : (row : Row) (given : List Argument) (before : ℕ) (name value : Text) (rest : List Item) → option_of row name ≡ None
      → arguments row given before (option name value ∷ rest) ≡ None
  -- an option that comes twice
  pub twice : (row : Row) (given : List Argument) (before : ℕ) (name value : Text) (rest : List Item) (p : Parameter) → option_of row name ≡ Some p
      → is_given p.name given ≡ true → arguments row given before (option name value ∷ rest) ≡ None
  -- an operand that is no number, or one out of its bounds, where the command takes a number
  pub operand_out_of_bounds : (row : Row) (given : List Argument) (before : ℕ) (value : Text) (rest : List Item) (p : Parameter) → slice_get row.operands before ≡ Some p
      → fits p.value value ≡ false → arguments row given before (operand value ∷ rest) ≡ None
  -- an option whose value is no number, or one out of its bounds
  pub option_out_of_bounds : (row : Row) (given : List Argument) (before : ℕ) (name value : Text) (rest : List Item) (p : Parameter) → option_of row name ≡ Some p
      → fits p.value value ≡ false → arguments row given before (option name value ∷ rest) ≡ None

-- the word is no flag
abbrev pub is_plain_kind : Kind → Bool
is_plain_kind plain = true
is_plain_kind _ = false

-- whether the word is no flag: it begins with no dash, or is a dash by itself
abbrev pub is_plain : Text → Bool
is_plain word = is_plain_kind (kind word)

-- uni of two files, and nothing else
abbrev pub uni_of : List Text → Option Command
uni_of [] = None
uni_of (image ∷ []) = None
uni_of (image ∷ script ∷ []) = Some (uni image script)
uni_of (image ∷ script ∷ more ∷ rest) = None

-- Where none of the words is a flag, uni takes two files, and nothing else.
abbrev pub UniTakesTwoFiles : Type 0
UniTakesTwoFiles = (words : List Text) → list_all is_plain words ≡ true → command_of (codes "uni" ∷ words) ≡ uni_of words

-- the options of a run are within their bounds
pub record AreWithin (options : Options) : Type 0 where
  pub harts : (1 ≤ options.harts) × (options.harts ≤ MOST_HARTS)
  pub steps : (1 ≤ options.steps) × (options.steps ≤ MOST_STEPS)
  pub rounds : (1 ≤ options.rounds) × (options.rounds ≤ MOST_ROUNDS)

-- the numbers of a command are within their bounds
abbrev pub IsCommandWithin : Command → Type 0
IsCommandWithin (uni image script) = Unit {0}
IsCommandWithin (replay image map script journal) = Unit {0}
IsCommandWithin (run image map script journal options) = AreWithin options
IsCommandWithin (lockstep image map script plan journal options) = AreWithin options
IsCommandWithin (asm source image) = Unit {0}
IsCommandWithin (elf executable image map) = Unit {0}
IsCommandWithin (load number) = number ≤ 4294967295

-- The numbers of each request are within their bounds, the defaults of options that aren't given too.
abbrev pub RequestsAreWithin : Type 0
RequestsAreWithin = (words : List Text) (r : Command) → request_of words ≡ Some r → IsCommandWithin r
