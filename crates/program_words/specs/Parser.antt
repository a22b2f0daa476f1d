-- The parser of the words, as clap has it: what stands in it before it is built.
use Rattle.std.specs.Prelude.{◌≡◌, true, false, List, [], ◌∷◌, ◌++◌, map, codes, Some, None, Option}
use Rattle.std.specs.List.{fold}
use Rattle.clap.specs.Walk.{Row as Found}
use Rattle.clap.specs.declared.builder.value_parser.Reading.TheVariants.{AsWritten}
use Rattle.clap.specs.declared.parser.matches.ValueSource.TheVariants.{CommandLine}
use Rattle.clap.specs.Words.{App, Rule, Shape, app_of, first_of, found_of, new_rule, one_of, rows_of, with_rule, with_subcommand}
use Rattle.clap.specs.Simple.{new_shape}
use Rattle.clap.specs.declared.builder.action.ArgAction.TheVariants.{Set}
use Rattle.clap.specs.declared.builder.command.Command.{Command}
use Rattle.clap.specs.declared.builder.command.Command.TheViews.{out-Command as fields_of}
use Rattle.clap.specs.declared.builder.value_parser.ValueParser.{ValueParser}
use Rattle.clap.specs.declared.builder.value_parser.ValueParser.TheVariants as vp
use Rattle.clap.specs.declared.parser.matches.ArgMatches.{ArgMatches}
use Rattle.program_words.specs.Words.{Text, Value, any_word, number, Parameter, Argument, Row}

-- the parser of a value; that of any word is the one that an argument has by itself
abbrev pub parser_of : Value → Option ValueParser
parser_of any_word = None
parser_of (number low high) = Some (vp.Unsigned low high)

-- an operand: it is required, and is given once
abbrev pub operand_rule : Parameter → Rule
operand_rule p = record (new_rule p.name) { required = true; action = Some Set; parser = parser_of p.value }

-- an option: it may be given, once, by its name after two dashes
abbrev pub option_rule : Parameter → Rule
option_rule p = record (new_rule p.name) { long = Some p.name; action = Some Set; parser = parser_of p.value }

-- the command of a row
abbrev pub row_command : Row → Shape
row_command row = record (new_shape row.word) { rules = map operand_rule row.operands ++ map option_rule row.options }

-- The program without its commands: its words come without its name, the first is a command, and there is no help and no
-- version.
abbrev pub program_settings : App
program_settings = record {
  top = record (new_shape (codes "kdbsim")) {
    no_binary_name = true;
    disable_help_flag = true;
    disable_help_subcommand = true;
    disable_version_flag = true;
    subcommand_required = true;
  };
  subs = [];
}

-- the program with the commands of the table, of which there is one at least
abbrev pub program : List Row → App
program table = record { top = record program_settings.top { is_leaf = false }; subs = map row_command table }

-- the command is this one, and none of its arguments holds below it
pub record IsParser (command : Command) (app : App) : Type 0 where
  pub app_is : app_of command ≡ app
  pub local : (fields_of command).has_globals ≡ false

-- the command with one rule more
pub record HasRule (old : Command) (rule : Rule) (new : Command) : Type 0 where
  pub app_is : app_of new ≡ with_rule (app_of old) rule
  pub local : (fields_of new).has_globals ≡ (fields_of old).has_globals

-- the command with these rules more
pub record HasRules (old : Command) (rules : List Rule) (new : Command) : Type 0 where
  pub app_is : app_of new ≡ fold with_rule (app_of old) rules
  pub local : (fields_of new).has_globals ≡ (fields_of old).has_globals

-- the program with one command more, where that has no argument that holds below it
abbrev pub HasCommand : Command → Command → Command → Type 0
HasCommand old command new =
    (fields_of old).has_globals ≡ false → (fields_of command).has_globals ≡ false
    → IsParser new (with_subcommand (app_of old) (app_of command).top)

-- the command of a row
abbrev pub IsRow : Row → Command → Type 0
IsRow row command = IsParser command (record { top = row_command row; subs = [] })

-- the value of a name in the matches, as it is written
abbrev pub values_in : ArgMatches → Text → Option Text
values_in found name = first_of name (rows_of (found_of found))

-- the value of a name in the matches, as a number is read
abbrev pub numbers_in : ArgMatches → Text → Option Text
numbers_in found name = one_of name (rows_of (found_of found))

-- what clap finds for an argument that was given
abbrev pub row_of : Argument → Found
row_of a = record { id = a.0; values = a.1 ∷ []; count = None; source = Some CommandLine; reading = AsWritten }

-- what clap finds for the arguments that were given, in their order
abbrev pub rows : List Argument → List Found
rows given = map row_of given

-- what it finds for a command's word with its arguments
abbrev pub rows_of_words : Row × List Argument → Text × List Found
rows_of_words r = (r.0.word, rows r.1)
