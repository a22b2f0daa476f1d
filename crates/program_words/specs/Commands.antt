-- What the words ask for.
use Rattle.std.specs.Prelude.{ℕ, Bool, true, not, List, codes, Option, Some, None, option_map, option_and_then, unwrap_or, if◌then◌else◌}
use Rattle.std.specs.Str.{bytes_eq}
use Rattle.std.specs.Str.Parse.{digits_value, without_leading_plus}
use Rattle.program_words.specs.declared.request.Options.{Options}
use Rattle.program_words.specs.Words.{Text, Row, Argument, argument, is_number_in, row_and_arguments}
use Rattle.program_words.specs.Rows.{command_rows}

-- a command, with the names of its files, the options of a run, or its number
pub data Command : Type 0 where
  uni : Text → Text → Command
  replay : Text → Text → Text → Text → Command
  run : Text → Text → Text → Text → Options → Command
  lockstep : Text → Text → Text → Text → Text → Options → Command
  asm : Text → Text → Command
  elf : Text → Text → Text → Command
  load : ℕ → Command

-- the value of each name
abbrev pub Values : Type 0
Values = Text → Option Text

-- the number that a word is, up to the most that there is room for
abbrev pub number_to : ℕ → Text → Option ℕ
number_to most word = if is_number_in 0 most word then Some (digits_value 10 (without_leading_plus word)) else None

-- the number of a name, and where it isn't given the default
abbrev pub number_or : Values → Text → ℕ → ℕ → ℕ
number_or values name most default = unwrap_or (option_and_then (number_to most) (values name)) default

-- the options of a run, each with what it is where it isn't given
abbrev pub options_of : Values → Options
options_of values = record {
  harts = number_or values (codes "harts") 255 1;
  steps = number_or values (codes "steps") 18446744073709551615 1000000;
  rounds = number_or values (codes "rounds") 4294967295 1000;
}

-- with the value of a name
abbrev pub with_value : Values → Text → (Text → Option Command) → Option Command
with_value values name make = option_and_then make (values name)

-- the request `uni`, where each of its files is given
abbrev pub uni_from : Values → Option Command
uni_from values = with_value values (codes "image") (λ image. with_value values (codes "script") (λ script. Some (uni image script)))

-- the request `replay`, where each of its files is given
abbrev pub replay_from : Values → Option Command
replay_from values =
    with_value values (codes "image") (λ image. with_value values (codes "map") (λ map. with_value values (codes "script")
    (λ script. with_value values (codes "journal") (λ journal. Some (replay image map script journal)))))

-- the request `run`, where each of its files is given, with the options
abbrev pub run_from : Values → Values → Option Command
run_from values numbers =
    with_value values (codes "image") (λ image. with_value values (codes "map") (λ map. with_value values (codes "script")
    (λ script. with_value values (codes "journal") (λ journal. Some (run image map script journal (options_of numbers))))))

-- the request `lockstep`, where each of its files is given, with the options
abbrev pub lockstep_from : Values → Values → Option Command
lockstep_from values numbers =
    with_value values (codes "image") (λ image. with_value values (codes "map") (λ map. with_value values (codes "script")
    (λ script. with_value values (codes "plan") (λ plan. with_value values (codes "journal")
    (λ journal. Some (lockstep image map script plan journal (options_of numbers)))))))

-- the request `asm`, where both its files are given
abbrev pub asm_from : Values → Option Command
asm_from values = with_value values (codes "source") (λ source. with_value values (codes "image") (λ image. Some (asm source image)))

-- the request `elf`, where each of its files is given
abbrev pub elf_from : Values → Option Command
elf_from values =
    with_value values (codes "elf") (λ executable. with_value values (codes "image") (λ image. with_value values (codes "map")
    (λ map. Some (elf executable image map))))

-- the request `load`, where its number is given and is below 2^32
abbrev pub load_from : Values → Option Command
load_from numbers = option_map (λ n. load n) (option_and_then (number_to 4294967295) (numbers (codes "number")))

-- the request of a command's word with these values, and with these for its numbers
abbrev pub request_with : Text → Values → Values → Option Command
request_with word values numbers =
    if bytes_eq word (codes "uni") then uni_from values
    else if bytes_eq word (codes "replay") then replay_from values
    else if bytes_eq word (codes "run") then run_from values numbers
    else if bytes_eq word (codes "lockstep") then lockstep_from values numbers
    else if bytes_eq word (codes "asm") then asm_from values
    else if bytes_eq word (codes "elf") then elf_from values
    else if bytes_eq word (codes "load") then load_from numbers
    else None

-- the request of a row with these arguments
abbrev pub request_from : Row → List Argument → Option Command
request_from row given = request_with row.word (λ name. argument name given) (λ name. argument name given)

-- What the words ask for, if they are right for a command, whatever names its files have.
abbrev pub request_of : List Text → Option Command
request_of words = option_and_then (λ r. request_from r.0 r.1) (row_and_arguments command_rows words)

-- whether a command has a name of its own for each file that it writes: elf writes an image and a map
abbrev pub writes_apart : Command → Bool
writes_apart (elf executable image map) = not (bytes_eq image map)
writes_apart other = true

-- a command that has a name for each file that it writes
abbrev pub set_apart : Command → Option Command
set_apart c = if writes_apart c then Some c else None

-- The command that the words ask for: where there is none, they are no use of the program. Words that name one file for
-- both files that a command writes ask for none.
abbrev pub command_of : List Text → Option Command
command_of words = option_and_then set_apart (request_of words)
