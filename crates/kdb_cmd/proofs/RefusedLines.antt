-- A line that is refused prints the line of its diagnostic, and changes nothing.
use Rattle.std.proofs.Common.{◌≡◌, ℕ, Bool, true, false, cond, List, [], Option, Some, None, Result, Ok, Err, ap, ◌∙◌}
use Rattle.mach_base.specs.Machine.{LineState}
use Rattle.mach_base.specs.Sequence.{◌>>=◌}
use Rattle.kdb_lex.specs.declared.lex_fault.LexFault.{LexFault}
use Rattle.kdb_lex.specs.Line.{command_words, line_pattern, refusal_of}
use Rattle.kdb_macro.specs.Macros.{MacroList}
use Rattle.kdb_table.specs.declared.diagnostics.Diagnostic.{Diagnostic}
use Rattle.kdb_cmd.specs.declared.desk.Gathering.{Gathering}
use Rattle.kdb_cmd.specs.Answer.{Answer}
use Rattle.kdb_table.specs.Diagnostics.{diagnostic_text}
use Rattle.kdb_cmd.specs.FirstWord.{first_word_of}
use Rattle.kdb_cmd.specs.MacroDefinition.{macros_after_line}
use Rattle.kdb_cmd.specs.Meanings.{printing, answer_or_line}
use Rattle.kdb_cmd.specs.Output.{lex_diagnostic, filtered_output, unless_refused, cut_answer}
use Rattle.kdb_cmd.specs.Line.{macros_of, with_macros, outer_meaning, outer_answer, macro_called, macro_or_words, words_answer, cut_line, stored_answer, line_answer}
use Rattle.kdb_cmd.specs.Laws.{RefusedLineChangesNothing}

while-defining : (line : List ℕ) (g : Gathering) (s : LineState) → s.defining ≡ true → line_answer line g s ≡ stored_answer line s
unfolding line_answer
while-defining line g s defining = ap (λ (b : Bool). cond b (stored_answer line s) (cut_line line g s)) defining

otherwise : (line : List ℕ) (g : Gathering) (s : LineState) → s.defining ≡ false → line_answer line g s ≡ cut_line line g s
unfolding line_answer
otherwise line g s defining = ap (λ (b : Bool). cond b (stored_answer line s) (cut_line line g s)) defining

not-stored : (line : List ℕ) (s : LineState) (d : Diagnostic) → macros_after_line (macros_of s) line ≡ Err d → stored_answer line s ≡ printing s (diagnostic_text [] d)
unfolding stored_answer
not-stored line s d refused = ap (λ (r : Result MacroList Diagnostic). answer_or_line [] s (r >>= λ m. Ok (with_macros s m))) refused

not-cut : (line : List ℕ) (g : Gathering) (s : LineState) (fault : LexFault) → refusal_of line ≡ Some fault → cut_line line g s ≡ printing s (diagnostic_text [] (lex_diagnostic fault))
unfolding cut_line cut_answer
not-cut line g s fault refused =
    ap (λ (o : Option LexFault). unless_refused o s (record (words_answer (command_words line) g s) { output = filtered_output (line_pattern line) (words_answer (command_words line) g s).output })) refused

words-refused : (words : List (List ℕ)) (g : Gathering) (s : LineState) (d : Diagnostic) → macro_called (first_word_of s.macros words) words ≡ None → outer_meaning (first_word_of s.macros words) words g s ≡ Err d → words_answer words g s ≡ printing s (diagnostic_text words d)
unfolding words_answer outer_answer
words-refused words g s d no_macro refused =
    ap (λ (o : Option ℕ). macro_or_words o words g s) no_macro ∙ ap (λ (r : Result Answer Diagnostic). answer_or_line words s r) refused

cut-refused : (line : List ℕ) (g : Gathering) (s : LineState) (text : List ℕ) → refusal_of line ≡ None → words_answer (command_words line) g s ≡ printing s text → cut_line line g s ≡ printing s (filtered_output (line_pattern line) text)
unfolding cut_line cut_answer
cut-refused line g s text cut is =
    ap (λ (o : Option LexFault). unless_refused o s (record (words_answer (command_words line) g s) { output = filtered_output (line_pattern line) (words_answer (command_words line) g s).output })) cut
    ∙ ap (λ (a : Answer). record a { output = filtered_output (line_pattern line) a.output }) is

pub refused_lines : (gathered entry : ℕ) (line : List ℕ) (s : LineState) → RefusedLineChangesNothing (record { gathered = gathered; entry = entry }) line s
refused_lines gathered entry line s =
    let g : Gathering = record { gathered = gathered; entry = entry } in
    record {
      stored = λ d defining refused. while-defining line g s defining ∙ not-stored line s d refused;
      cut = λ fault defining refused. otherwise line g s defining ∙ not-cut line g s fault refused;
      words = λ d defining cut no_macro refused.
          otherwise line g s defining
          ∙ cut-refused line g s (diagnostic_text (command_words line) d) cut (words-refused (command_words line) g s d no_macro refused);
    }
