-- Laws of lines: refusals change nothing, and a step begins where a hart can run.
use Rattle.std.specs.Prelude.{◌≡◌, ℕ, true, false, List, [], Some, None, Err}
use Rattle.mach_base.specs.Machine.{LineState}
use Rattle.hart_ctx.specs.Context.{context_of}
use Rattle.kdb_lex.specs.declared.lex_fault.LexFault.{LexFault}
use Rattle.kdb_lex.specs.Line.{command_words, line_pattern, refusal_of}
use Rattle.kdb_table.specs.declared.diagnostics.Diagnostic.{Diagnostic}
use Rattle.kdb_cmd.specs.declared.outcomes.Outcome.TheVariants.{Step}
use Rattle.kdb_cmd.specs.declared.desk.Gathering.{Gathering}
use Rattle.kdb_table.specs.Diagnostics.{diagnostic_text}
use Rattle.kdb_cmd.specs.FirstWord.{first_word_of}
use Rattle.kdb_cmd.specs.MacroDefinition.{macros_after_line}
use Rattle.kdb_cmd.specs.Meanings.{printing}
use Rattle.kdb_cmd.specs.Output.{lex_diagnostic, filtered_output}
use Rattle.kdb_cmd.specs.Line.{macros_of, outer_meaning, macro_called, line_answer, line_said}

-- A line that is refused prints the line of its diagnostic, changes nothing, and the session goes on: one that isn't kept
-- in the macro being defined, one that isn't cut into words, and one whose words mean a diagnostic; the last one's
-- diagnostic goes through the line's filter.
pub record RefusedLineChangesNothing (g : Gathering) (line : List ℕ) (s : LineState) : Type 0 where
  pub stored : (d : Diagnostic) → s.defining ≡ true → macros_after_line (macros_of s) line ≡ Err d → line_answer line g s ≡ printing s (diagnostic_text [] d)
  pub cut : (fault : LexFault) → s.defining ≡ false → refusal_of line ≡ Some fault → line_answer line g s ≡ printing s (diagnostic_text [] (lex_diagnostic fault))
  pub words : (d : Diagnostic) → s.defining ≡ false → refusal_of line ≡ None → macro_called (first_word_of s.macros (command_words line)) (command_words line) ≡ None → outer_meaning (first_word_of s.macros (command_words line)) (command_words line) g s ≡ Err d → line_answer line g s ≡ printing s (filtered_output (line_pattern line) (diagnostic_text (command_words line) d))

-- this holds of every line, session and state
abbrev pub RefusedLinesChangeNothing : Type 0
RefusedLinesChangeNothing = (gathered entry : ℕ) (line : List ℕ) (s : LineState) → RefusedLineChangesNothing (record { gathered = gathered; entry = entry }) line s

-- a line that leaves the session for one instruction leaves the processor that was entered on not halted
abbrev pub StepsBeginWhereAHartRuns : Type 0
StepsBeginWhereAHartRuns = (gathered entry : ℕ) (line : List ℕ) (s : LineState) → (line_said gathered entry line s).outcome ≡ Step → (context_of (line_said gathered entry line s).state.harts entry).halted ≡ false
