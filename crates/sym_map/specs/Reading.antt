-- The map file: the symbols that its lines name.
use Rattle.std.specs.Prelude.{◌≡◌, ℕ, ◌==◌, ◌&&◌, ◌||◌, Bool, not, List, [], ◌∷◌, length, codes, Option, Some, None, Result, Ok, Err, nat_lt, nat_le, if◌then◌else◌}
use Rattle.std.specs.Option.{option_map}
use Rattle.std.specs.Result.{result_ok}
use Rattle.std.specs.Str.{bytes_eq}
use Rattle.mach_base.specs.declared.event.What.TheVariants as counts
use Rattle.mach_base.specs.declared.limits.TheConstants.{MOST_SYMBOLS, SYMBOL_BYTES}
use Rattle.mach_base.specs.Machine.{Symbol}
use Rattle.mach_base.specs.Sequence.{◌>>=◌}
use Rattle.mach_base.specs.Number.{has_prefix, number_of}
use Rattle.mach_base.specs.Lines.{lines_of, is_comment}
use Rattle.mach_base.specs.LineByLine.{each_line}
use Rattle.sym_map.specs.declared.fault.MapFault.{MapFault}
use Rattle.sym_map.specs.declared.fault.MapFault.TheVariants.{Bad, TooLarge, OutOfMemory}

-- what a call gave is what reading gives, unless memory ran out
abbrev pub IsFault : {A : Type 0} → MapFault → Result A MapFault → Type 0
IsFault (Bad line) read = read ≡ Err (Bad line)
IsFault (TooLarge what size) read = read ≡ Err (TooLarge what size)
IsFault OutOfMemory read = Unit {0}

-- so is what it gave where it didn't refuse
abbrev pub Gives : {A : Type 0} → Result A MapFault → Result A MapFault → Type 0
Gives (Ok x) read = read ≡ Ok x
Gives (Err fault) read = IsFault fault read

-- whether the word is the type of a symbol without an address
abbrev pub is_undefined : List ℕ → Bool
is_undefined word = bytes_eq word (codes "U") || bytes_eq word (codes "w") || bytes_eq word (codes "v")

-- the address that a word writes: 1 to 16 hexadecimal digits without 0x
abbrev pub address_of : List ℕ → Option ℕ
address_of word = if nat_le (length word) 16 && not (has_prefix word) then result_ok (number_of 16 word) else None

-- the symbol of an address, a type of one byte and a name that isn't too long
abbrev pub symbol_of : List ℕ → List ℕ → List ℕ → Option Symbol
symbol_of word kind name =
    if (length kind == 1) && nat_le (length name) SYMBOL_BYTES then option_map (λ addr. record { addr = addr; name = name }) (address_of word) else None

-- the symbol, or the line of this number is bad
abbrev pub known : ℕ → Option Symbol → Result (Option Symbol) MapFault
known number None = Err (Bad number)
known number (Some s) = Ok (Some s)

-- what a line gives by its first word and the others; a fourth word is ignored
abbrev pub after_first : ℕ → List ℕ → List (List ℕ) → Result (Option Symbol) MapFault
after_first number word [] = Err (Bad number)
after_first number word (kind ∷ []) = if is_undefined word then Ok None else Err (Bad number)
after_first number word (kind ∷ name ∷ []) = known number (symbol_of word kind name)
after_first number word (kind ∷ name ∷ more ∷ []) = known number (symbol_of word kind name)
after_first number word (kind ∷ name ∷ more ∷ further ∷ rest) = Err (Bad number)

-- The symbol of the line of this number, by its words; none for a line that is skipped.
unfoldable pub line_of : ℕ → List (List ℕ) → Result (Option Symbol) MapFault
line_of number [] = Ok None
line_of number (word ∷ words) = if is_comment word then Ok None else after_first number word words

-- the symbols of the lines in order, of which the first has this number
abbrev pub read_lines : ℕ → List (List ℕ) → Result (List Symbol) MapFault
read_lines number lines = each_line line_of number lines

-- the symbols, if they aren't too many
abbrev pub within_limit : List Symbol → Result (List Symbol) MapFault
within_limit symbols = if nat_lt MOST_SYMBOLS (length symbols) then Err (TooLarge counts.Symbols (length symbols)) else Ok symbols

-- The symbols that a text means, or its first faulty line.
abbrev pub symbols_of : List ℕ → Result (List Symbol) MapFault
symbols_of text = read_lines 1 (lines_of text) >>= within_limit
