-- What is printed of a line: why it isn't cut into words, the diagnostic of its words, and what its filter lets through.
use Rattle.std.specs.Prelude.{◌≡◌, ℕ, List, [], Option, Some, None, Result, Ok, Err}
use Rattle.mach_base.specs.Machine.{LineState}
use Rattle.kdb_lex.specs.declared.lex_fault.LexFault.{LexFault}
use Rattle.kdb_lex.specs.declared.lex_fault.LexFault.TheVariants as fault
use Rattle.kdb_lex.specs.Line.{line_pattern, refusal_of}
use Rattle.kdb_grep.specs.Filter.{pattern_of, filtered}
use Rattle.kdb_table.specs.declared.diagnostics.Diagnostic.{Diagnostic}
use Rattle.kdb_table.specs.declared.diagnostics.Diagnostic.TheVariants.{UnclosedQuote, TooManyWords, BadPipe}
use Rattle.kdb_table.specs.declared.refusals.Refusal.{Refusal}
use Rattle.kdb_table.specs.declared.refusals.Refusal.TheVariants.{Diagnosed, OutOfMemory as NoMemory}
use Rattle.kdb_cmd.specs.declared.outcomes.Outcome.TheVariants.{Stay}
use Rattle.kdb_cmd.specs.declared.outcomes.Said.{Said}
use Rattle.kdb_cmd.specs.Answer.{Answer}
use Rattle.kdb_table.specs.Diagnostics.{diagnostic_text}
use Rattle.kdb_cmd.specs.Meanings.{printing}

-- the diagnostic of a line that isn't cut into words; out of memory has none
abbrev pub lex_diagnostic : LexFault → Diagnostic
lex_diagnostic fault.Unclosed = UnclosedQuote
lex_diagnostic fault.TooManyWords = TooManyWords
lex_diagnostic fault.BadPipe = BadPipe
lex_diagnostic fault.OutOfMemory = BadPipe

-- what is printed of a line with these words: what their command says, or else the line of its diagnostic
abbrev pub IsPrinted : List (List ℕ) → Result Said Refusal → Said → Type 0
IsPrinted words (Ok meant) said = said ≡ meant
IsPrinted words (Err (Diagnosed diagnostic)) said = (said.text ≡ diagnostic_text words diagnostic) × (said.outcome ≡ Stay)
IsPrinted words (Err NoMemory) said = ⊥

-- the lines of a text that pass the filter, if there is one
abbrev pub filtered_output : Option (List ℕ) → List ℕ → List ℕ
filtered_output None text = text
filtered_output (Some pattern) text = filtered (pattern_of pattern) text

-- the answer, unless the line isn't cut into words
abbrev pub unless_refused : Option LexFault → LineState → Answer → Answer
unless_refused None s answer = answer
unless_refused (Some fault) s answer = printing s (diagnostic_text [] (lex_diagnostic fault))

-- what a line prints and does whose words have this answer: the output goes through the line's filter
unfoldable pub cut_answer : List ℕ → LineState → Answer → Answer
cut_answer line s answer = unless_refused (refusal_of line) s (record answer { output = filtered_output (line_pattern line) answer.output })
