-- What the first word of a line names.
use Rattle.std.specs.Prelude.{ℕ, ◌-◌, ◌==◌, List, length, Option, Some, None, if◌then◌else◌}
use Rattle.mach_base.specs.Machine.{Macro as MacroRecord}
use Rattle.kdb_macro.specs.Macros.{named}
use Rattle.kdb_table.specs.declared.commands.Entry.{Entry}
use Rattle.kdb_table.specs.declared.commands.Entry.TheVariants as entry
use Rattle.kdb_cmd.specs.declared.line.first_word.FirstWord.{FirstWord}
use Rattle.kdb_cmd.specs.declared.line.first_word.FirstWord.TheVariants.{Nothing, Command, Define, Macro, WrongCount, Unknown}
use Rattle.kdb_table.specs.Words.{word_at}
use Rattle.kdb_table.specs.Table.{is_spelled, is_command, entry_of}

-- the macro of this number, or no name
abbrev pub macro_or_unknown : Option ℕ → FirstWord
macro_or_unknown None = Unknown
macro_or_unknown (Some number) = Macro number

-- what a word names that isn't an entry of the table with its number of arguments
abbrev pub other_name : List MacroRecord → List ℕ → FirstWord
other_name macros word =
    if is_spelled word entry.Define then Define
    else if is_command word then WrongCount
    else macro_or_unknown (named word macros)

-- the entry of the table, or else what the word names
abbrev pub entry_or_other : Option Entry → List MacroRecord → List ℕ → FirstWord
entry_or_other None macros word = other_name macros word
entry_or_other (Some (entry.Run c)) macros word = Command c
entry_or_other (Some entry.Define) macros word = Define

-- what the first word of a line names: an entry of the table before a macro
unfoldable pub first_word_of : List MacroRecord → List (List ℕ) → FirstWord
first_word_of macros words =
    if length words == 0 then Nothing else entry_or_other (entry_of (word_at words 0) (length words - 1)) macros (word_at words 0)
