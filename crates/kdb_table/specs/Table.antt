-- The table of the commands: how each is spelled and written, and how many arguments it takes.
use Rattle.std.specs.Prelude.{ℕ, ◌==◌, ◌&&◌, ◌||◌, Bool, true, false, List, [], ◌∷◌, codes, length, take, drop, nat_le, find, slice_index_or, Option, Some, None, Result, Ok, Err, if◌then◌else◌}
use Rattle.std.specs.List.{list_all, list_any}
use Rattle.std.specs.Str.{bytes_eq}
use Rattle.mach_base.specs.Number.{number_of}
use Rattle.mach_base.specs.declared.number.NumFault.{NumFault}
use Rattle.kdb_table.specs.declared.commands.Entry.{Entry}
use Rattle.kdb_table.specs.declared.commands.Entry.TheVariants.{Run, Define}
use Rattle.kdb_table.specs.declared.commands.Command.TheVariants.{Show, Mm, MmWidth, Rm, Bp, Change, Cpu, SetOneWord, Set, Ss, Go}
use Rattle.kdb_table.specs.declared.commands.ShowCommand.TheVariants.{Md, MdWidth, MdCount, Mdr, Mds, Id, Rd, BpList, Bl, Bt, Btc, CpuList, Env, Help}
use Rattle.kdb_table.specs.declared.commands.BreakpointChange.TheVariants.{Clear, Disable, Enable}
use Rattle.kdb_table.specs.declared.table.Ending.{Ending}
use Rattle.kdb_table.specs.declared.table.Ending.TheVariants.{Plain, Width, WidthAndCount}

-- a command's name, what follows it in a spelling, how the command is written, the fewest and the most arguments, and
-- whether each of them is an expression
pub record Row : Type 0 where
  pub name : List ℕ
  pub ending : Ending
  pub usage : List ℕ
  pub least : ℕ
  pub most : ℕ
  pub expressions : Bool

-- a row whose arguments are expressions
abbrev pub expression_row : List ℕ → Ending → List ℕ → ℕ → ℕ → Row
expression_row name ending usage least most = record { name = name; ending = ending; usage = usage; least = least; most = most; expressions = true }

-- a row whose arguments, if there are any, are no expressions, or not all of them
abbrev pub plain_row : List ℕ → List ℕ → ℕ → ℕ → Row
plain_row name usage least most = record { name = name; ending = Plain; usage = usage; least = least; most = most; expressions = false }

-- the row of each entry: E is an expression, N a number, W a width of 1, 2, 4 or 8
unfoldable pub row_of : Entry → Row
row_of (Run (Show Md)) = expression_row (codes "md") Plain (codes "md E [E]") 1 2
row_of (Run (Show MdWidth)) = expression_row (codes "md") Width (codes "mdW E [E]") 1 2
row_of (Run (Show MdCount)) = expression_row (codes "md") WidthAndCount (codes "mdWcN E") 1 1
row_of (Run (Show Mdr)) = expression_row (codes "mdr") Plain (codes "mdr E E") 2 2
row_of (Run (Show Mds)) = expression_row (codes "mds") Plain (codes "mds E [E]") 1 2
row_of (Run (Show Id)) = expression_row (codes "id") Plain (codes "id E [E]") 1 2
row_of (Run Mm) = expression_row (codes "mm") Plain (codes "mm E E") 2 2
row_of (Run MmWidth) = expression_row (codes "mm") Width (codes "mmW E E") 2 2
row_of (Run (Show Rd)) = plain_row (codes "rd") (codes "rd") 0 0
row_of (Run Rm) = plain_row (codes "rm") (codes "rm REG E") 2 2
row_of (Run (Show BpList)) = plain_row (codes "bp") (codes "bp") 0 0
row_of (Run Bp) = expression_row (codes "bp") Plain (codes "bp E") 1 1
row_of (Run (Show Bl)) = plain_row (codes "bl") (codes "bl") 0 0
row_of (Run (Change Clear)) = plain_row (codes "bc") (codes "bc N") 1 1
row_of (Run (Change Disable)) = plain_row (codes "bd") (codes "bd N") 1 1
row_of (Run (Change Enable)) = plain_row (codes "be") (codes "be N") 1 1
row_of (Run Ss) = plain_row (codes "ss") (codes "ss") 0 0
row_of (Run Go) = expression_row (codes "go") Plain (codes "go [E]") 0 1
row_of (Run (Show Bt)) = plain_row (codes "bt") (codes "bt") 0 0
row_of (Run (Show Btc)) = plain_row (codes "btc") (codes "btc") 0 0
row_of (Run (Show CpuList)) = plain_row (codes "cpu") (codes "cpu") 0 0
row_of (Run Cpu) = plain_row (codes "cpu") (codes "cpu N") 1 1
row_of (Run (Show Env)) = plain_row (codes "env") (codes "env") 0 0
row_of (Run SetOneWord) = plain_row (codes "set") (codes "set NAME=VALUE") 1 1
row_of (Run Set) = plain_row (codes "set") (codes "set NAME VALUE") 2 2
row_of Define = plain_row (codes "defcmd") (codes "defcmd NAME [USAGE [HELP]]") 1 3
row_of (Run (Show Help)) = plain_row (codes "help") (codes "help") 0 0

-- the entries, in the order of `help`
unfoldable pub entries : List Entry
entries =
    Run (Show Md) ∷ Run (Show MdWidth) ∷ Run (Show MdCount) ∷ Run (Show Mdr) ∷ Run (Show Mds) ∷ Run (Show Id)
    ∷ Run Mm ∷ Run MmWidth ∷ Run (Show Rd) ∷ Run Rm ∷ Run (Show BpList) ∷ Run Bp ∷ Run (Show Bl) ∷ Run (Change Clear) ∷ Run (Change Disable) ∷ Run (Change Enable)
    ∷ Run Ss ∷ Run Go ∷ Run (Show Bt) ∷ Run (Show Btc) ∷ Run (Show CpuList) ∷ Run Cpu
    ∷ Run (Show Env) ∷ Run SetOneWord ∷ Run Set ∷ Define ∷ Run (Show Help) ∷ []

-- the digit of a width
abbrev pub is_width : ℕ → Bool
is_width digit = digit == 49 || digit == 50 || digit == 52 || digit == 56

-- a decimal digit
abbrev pub is_digit : ℕ → Bool
is_digit b = nat_le 48 b && nat_le b 57

-- decimal digits without leading zeros
abbrev pub is_numeral : List ℕ → Bool
is_numeral [] = false
is_numeral (d ∷ []) = is_digit d
is_numeral (d ∷ e ∷ ds) = if d == 48 then false else list_all is_digit (d ∷ e ∷ ds)

-- whether these bytes can follow the name: nothing, a width, or a width, `c` and a number
unfoldable pub is_ending : Ending → List ℕ → Bool
is_ending Plain [] = true
is_ending Plain (b ∷ bs) = false
is_ending Width [] = false
is_ending Width (w ∷ []) = is_width w
is_ending Width (w ∷ b ∷ bs) = false
is_ending WidthAndCount [] = false
is_ending WidthAndCount (w ∷ []) = false
is_ending WidthAndCount (w ∷ c ∷ digits) = is_width w && c == 99 && is_numeral digits

-- whether the word is a spelling of the entry
unfoldable pub is_spelled : List ℕ → Entry → Bool
is_spelled word c =
    bytes_eq (take (length (row_of c).name) word) (row_of c).name && is_ending (row_of c).ending (drop (length (row_of c).name) word)

-- whether the entry takes so many arguments
unfoldable pub takes : ℕ → Entry → Bool
takes count c = nat_le (row_of c).least count && nat_le count (row_of c).most

-- whether an entry is spelled so
unfoldable pub is_command : List ℕ → Bool
is_command word = list_any (is_spelled word) entries

-- whether the word is a spelling of the entry, which takes so many arguments
abbrev pub is_called : List ℕ → ℕ → Entry → Bool
is_called word count c = is_spelled word c && takes count c

-- the entry that is spelled so and takes so many arguments
unfoldable pub entry_of : List ℕ → ℕ → Option Entry
entry_of word count = find (is_called word count) entries

-- the bytes of a word of memory, by their digit; 8 for any other byte
abbrev pub width_of : ℕ → ℕ
width_of digit = if digit == 49 then 1 else if digit == 50 then 2 else if digit == 52 then 4 else 8

-- the width that is spelled, after the two letters of the name
unfoldable pub spelled_width : List ℕ → ℕ
spelled_width word = width_of (slice_index_or word 2 0)

-- a count, where it is from 1 to the most that there may be
abbrev pub count_within : ℕ → ℕ → Option ℕ
count_within most count = if nat_le 1 count && nat_le count most then Some count else None

-- the count that was read, where it is from 1 to 256
abbrev pub read_count : Result ℕ NumFault → Option ℕ
read_count (Ok count) = count_within 256 count
read_count (Err fault) = None

-- the number that is spelled after the width and `c`, where it is from 1 to 256
unfoldable pub spelled_count : List ℕ → Option ℕ
spelled_count (m ∷ d ∷ w ∷ c ∷ digits) = read_count (number_of 10 digits)
spelled_count [] = None
spelled_count (m ∷ []) = None
spelled_count (m ∷ d ∷ []) = None
spelled_count (m ∷ d ∷ w ∷ []) = None
