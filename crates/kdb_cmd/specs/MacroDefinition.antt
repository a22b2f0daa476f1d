-- How macros are defined.
use Rattle.std.specs.Prelude.{ℕ, ◌-◌, ◌||◌, Bool, false, List, [], ◌∷◌, length, codes, Option, Some, None, Result, Ok, Err, if◌then◌else◌}
use Rattle.std.specs.Str.{bytes_eq}
use Rattle.mach_base.specs.Lines.{words_of}
use Rattle.kdb_macro.specs.declared.macro_fault.MacroFault.{MacroFault}
use Rattle.kdb_macro.specs.declared.macro_fault.MacroFault.TheVariants as fault
use Rattle.kdb_macro.specs.Macros.{MacroList, begin_refusal, begun, add_refusal, with_line}
use Rattle.kdb_table.specs.declared.diagnostics.Diagnostic.{Diagnostic}
use Rattle.kdb_table.specs.declared.diagnostics.Diagnostic.TheVariants as diagnostic
use Rattle.kdb_table.specs.Words.{word_at}
use Rattle.kdb_table.specs.declared.commands.Entry.TheVariants.{Define}
use Rattle.kdb_table.specs.Table.{takes, is_command}

-- whether the words of a line are just `endefcmd`; quotes and pipes are bytes like others here
abbrev pub is_end : List (List ℕ) → Bool
is_end [] = false
is_end (word ∷ []) = bytes_eq word (codes "endefcmd")
is_end (word ∷ next ∷ rest) = false

-- whether an entry of the table has the name, or the end of a macro
abbrev pub is_reserved : List ℕ → Bool
is_reserved name = is_command name || bytes_eq name (codes "endefcmd")

-- the diagnostic of a macro that isn't begun, or a line that isn't kept; out of memory has none
abbrev pub macro_diagnostic : MacroFault → Diagnostic
macro_diagnostic fault.BadName = diagnostic.BadName 1
macro_diagnostic fault.Reserved = diagnostic.ReservedName 1
macro_diagnostic fault.Duplicate = diagnostic.Duplicate
macro_diagnostic fault.Full = diagnostic.MacroFull
macro_diagnostic fault.OutOfMemory = diagnostic.MacroFull

-- the macros, unless they are refused
abbrev pub macros_unless : Option MacroFault → MacroList → Result MacroList Diagnostic
macros_unless None macros = Ok macros
macros_unless (Some why) macros = Err (macro_diagnostic why)

-- the macros after a line that is read while one is being defined
unfoldable pub macros_after_line : MacroList → List ℕ → Result MacroList Diagnostic
macros_after_line macros line =
    if is_end (words_of line) then Ok (record macros { defining = false })
    else macros_unless (add_refusal macros.macros) (with_line macros line)

-- the macros after `defcmd NAME [USAGE [HELP]]`
unfoldable pub macros_after_defcmd : MacroList → List (List ℕ) → Result MacroList Diagnostic
macros_after_defcmd macros words =
    if takes (length words - 1) Define
    then macros_unless (begin_refusal macros.macros (word_at words 1) (is_reserved (word_at words 1))) (begun macros (word_at words 1))
    else Err diagnostic.WrongArguments
