-- What one line of the debugger prints and does. docs/debugger.md, "Commands", has the rules.
use Rattle.std.specs.Prelude.{◌≡◌, ℕ, ◌==◌, List, [], length, slice_get, Option, Some, None, Result, Ok, Err, if◌then◌else◌}
use Rattle.mach_base.specs.Machine.{LineState}
use Rattle.kdb_lex.specs.Line.{command_words}
use Rattle.kdb_macro.specs.Macros.{MacroList}
use Rattle.kdb_table.specs.declared.diagnostics.Diagnostic.{Diagnostic}
use Rattle.kdb_table.specs.declared.diagnostics.Diagnostic.TheVariants.{WrongArguments}
use Rattle.kdb_cmd.specs.declared.line.first_word.FirstWord.{FirstWord}
use Rattle.kdb_cmd.specs.declared.line.first_word.FirstWord.TheVariants.{Nothing, Command, Define, Macro, WrongCount, Unknown}
use Rattle.kdb_cmd.specs.declared.desk.Gathering.{Gathering}
use Rattle.kdb_cmd.specs.declared.outcomes.Said.{Said}
use Rattle.kdb_cmd.specs.Answer.{Answer, answer_with}
use Rattle.mach_base.specs.Sequence.{◌>>=◌}
use Rattle.kdb_cmd.specs.Meanings.{printing, words_meaning, answer_or_line}
use Rattle.kdb_cmd.specs.MacroDefinition.{macros_after_line, macros_after_defcmd}
use Rattle.kdb_cmd.specs.FirstWord.{first_word_of}
use Rattle.kdb_cmd.specs.MacroLines.{macro_answer, lines_in}
use Rattle.kdb_cmd.specs.Output.{cut_answer}

-- the macros of a state
abbrev pub macros_of : LineState → MacroList
macros_of s = record { macros = s.macros; defining = s.defining }

-- nothing is printed, and the macros are these
abbrev pub with_macros : LineState → MacroList → Answer
with_macros s m = printing (record s { macros = m.macros; defining = m.defining }) []

-- what a line of these words does that calls no macro as it should; a macro that is called with arguments is refused
unfoldable pub outer_meaning : FirstWord → List (List ℕ) → Gathering → LineState → Result Answer Diagnostic
outer_meaning Define words g s = macros_after_defcmd (macros_of s) words >>= λ m. Ok (with_macros s m)
outer_meaning (Macro number) words g s = Err WrongArguments
outer_meaning Nothing words g s = words_meaning Nothing words g s
outer_meaning (Command c) words g s = words_meaning (Command c) words g s
outer_meaning WrongCount words g s = words_meaning WrongCount words g s
outer_meaning Unknown words g s = words_meaning Unknown words g s

-- what it prints and does
unfoldable pub outer_answer : FirstWord → List (List ℕ) → Gathering → LineState → Answer
outer_answer first_word words g s = answer_or_line words s (outer_meaning first_word words g s)

-- the macro that a line of these words calls; a call has no arguments
abbrev pub macro_called : FirstWord → List (List ℕ) → Option ℕ
macro_called (Macro number) words = if length words == 1 then Some number else None
macro_called Nothing words = None
macro_called (Command c) words = None
macro_called Define words = None
macro_called WrongCount words = None
macro_called Unknown words = None

-- the lines of that macro, or else the words themselves
abbrev pub macro_or_words : Option ℕ → List (List ℕ) → Gathering → LineState → Answer
macro_or_words None words g s = outer_answer (first_word_of s.macros words) words g s
macro_or_words (Some number) words g s = macro_answer (lines_in (slice_get s.macros number)) g s

-- what a line of these words prints and does: it calls a macro, begins one, or is a command
unfoldable pub words_answer : List (List ℕ) → Gathering → LineState → Answer
words_answer words g s = macro_or_words (macro_called (first_word_of s.macros words) words) words g s

-- a line that is cut into words
unfoldable pub cut_line : List ℕ → Gathering → LineState → Answer
cut_line line g s = cut_answer line s (words_answer (command_words line) g s)

-- a line that is read while a macro is being defined
unfoldable pub stored_answer : List ℕ → LineState → Answer
stored_answer line s = answer_or_line [] s (macros_after_line (macros_of s) line >>= λ m. Ok (with_macros s m))

-- a line of a session
unfoldable pub line_answer : List ℕ → Gathering → LineState → Answer
line_answer line g s = if s.defining then stored_answer line s else cut_line line g s

-- What a line prints, the state that it leaves and whether the session goes on, by the processors that are in the
-- session, the one that it was entered on, and the state before.
abbrev pub line_said : ℕ → ℕ → List ℕ → LineState → Answer
line_said gathered entry line s = line_answer line (record { gathered = gathered; entry = entry }) s

-- what a line has said, and the state that it has left, are its answer in the state before
abbrev pub LineSays : ℕ → ℕ → List ℕ → LineState → LineState → Said → Type 0
LineSays gathered entry line before after said = line_said gathered entry line before ≡ answer_with said after
