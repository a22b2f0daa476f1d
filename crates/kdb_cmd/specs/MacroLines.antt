-- The lines of a macro that is called.
use Rattle.std.specs.Prelude.{ℕ, Bool, true, false, List, [], ◌∷◌, ◌++◌, Option, Some, None, Result, if◌then◌else◌}
use Rattle.mach_base.specs.Machine.{Macro as MacroRecord, LineState}
use Rattle.kdb_lex.specs.Line.{command_words}
use Rattle.kdb_table.specs.declared.diagnostics.Diagnostic.{Diagnostic}
use Rattle.kdb_cmd.specs.declared.outcomes.Outcome.{Outcome}
use Rattle.kdb_cmd.specs.declared.outcomes.Outcome.TheVariants.{Stay, Go, Step}
use Rattle.kdb_cmd.specs.declared.desk.Gathering.{Gathering}
use Rattle.kdb_cmd.specs.Answer.{Answer}
use Rattle.kdb_cmd.specs.Meanings.{printing, words_meaning, answer_or_line}
use Rattle.kdb_cmd.specs.FirstWord.{first_word_of}
use Rattle.kdb_cmd.specs.Output.{cut_answer}

-- whether the session goes on
abbrev pub goes_on : Outcome → Bool
goes_on Stay = true
goes_on Go = false
goes_on Step = false

-- what the words of a macro's line do: it calls and begins no macro
unfoldable pub inner_meaning : List (List ℕ) → Gathering → LineState → Result Answer Diagnostic
inner_meaning words g s = words_meaning (first_word_of s.macros words) words g s

-- what they print and do
unfoldable pub inner_answer : List (List ℕ) → Gathering → LineState → Answer
inner_answer words g s = answer_or_line words s (inner_meaning words g s)

-- what a line of a macro prints and does
unfoldable pub inner_line : List ℕ → Gathering → LineState → Answer
inner_line line g s = cut_answer line s (inner_answer (command_words line) g s)

-- an answer, and after it what follows where the session goes on
abbrev pub first_then : Answer → Answer → Answer
first_then first rest = if goes_on first.outcome then record rest { output = first.output ++ rest.output } else first

-- the lines in order, until one leaves
abbrev pub macro_answer : List (List ℕ) → Gathering → LineState → Answer
macro_answer [] g s = printing s []
macro_answer (line ∷ rest) g s = first_then (inner_line line g s) (macro_answer rest g (inner_line line g s).state)

-- the lines of a macro; none where there is no macro
abbrev pub lines_in : Option MacroRecord → List (List ℕ)
lines_in None = []
lines_in (Some m) = m.lines
