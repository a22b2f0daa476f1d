-- What holds of each command and of macros holds of every line.
use Rattle.std.proofs.Common.{ℕ, Bool, true, false, cond, List, [], ◌∷◌, ◌++◌, Option, Some, None, Result, Ok, Err}
use Rattle.std.specs.Prelude.{IfOk, slice_get}
use Rattle.mach_base.specs.Machine.{LineState}
use Rattle.mach_base.specs.Sequence.{◌>>=◌}
use Rattle.kdb_lex.specs.declared.lex_fault.LexFault.{LexFault}
use Rattle.kdb_lex.specs.Line.{command_words, refusal_of as lex_refusal}
use Rattle.kdb_macro.specs.Macros.{MacroList}
use Rattle.kdb_view.specs.declared.arguments.Values.{Values}
use Rattle.kdb_table.specs.declared.commands.Command.{Command}
use Rattle.kdb_table.specs.declared.commands.Entry.TheVariants.{Run}
use Rattle.kdb_table.specs.declared.diagnostics.Diagnostic.{Diagnostic}
use Rattle.kdb_cmd.specs.declared.line.first_word.FirstWord.{FirstWord}
use Rattle.kdb_cmd.specs.declared.line.first_word.FirstWord.TheVariants as first_word
use Rattle.kdb_cmd.specs.declared.desk.Gathering.{Gathering}
use Rattle.kdb_cmd.specs.Answer.{Answer}
use Rattle.kdb_table.specs.Table.{row_of}
use Rattle.kdb_view.specs.Arguments.{values_of}
use Rattle.kdb_cmd.specs.Meanings.{printing, command_answer, command_meaning, words_meaning, answer_or_line}
use Rattle.kdb_cmd.specs.FirstWord.{first_word_of}
use Rattle.kdb_cmd.specs.Output.{unless_refused, cut_answer}
use Rattle.kdb_cmd.specs.MacroDefinition.{macros_after_line, macros_after_defcmd}
use Rattle.kdb_cmd.specs.MacroLines.{goes_on, inner_meaning, inner_answer, inner_line, first_then, macro_answer, lines_in}
use Rattle.kdb_cmd.specs.Line.{macros_of, with_macros, outer_meaning, outer_answer, macro_called, macro_or_words, words_answer, cut_line, stored_answer, line_answer}

-- what holds of the outcome of a step, whatever was given
pub after_any : {A B : Type 0} (Q : B → Type 0) (r : Result A Diagnostic) (f : A → Result B Diagnostic) → ((x : A) → IfOk (f x) Q) → IfOk (r >>= f) Q
after_any Q (Ok x) f q = q x
after_any Q (Err d) f q = tt

-- what holds of it, by what holds of that which was given
pub after : {A B : Type 0} (P : A → Type 0) (Q : B → Type 0) (r : Result A Diagnostic) (f : A → Result B Diagnostic) → IfOk r P → ((x : A) → P x → IfOk (f x) Q) → IfOk (r >>= f) Q
after P Q (Ok x) f p q = q x p
after P Q (Err d) f p q = tt

-- either way
pub either : {A : Type 0} (Q : A → Type 0) (test : Bool) (x other : A) → Q x → Q other → Q (cond test x other)
either Q true x other p q = p
either Q false x other p q = q

-- a property of answers to lines, by the state before, that commands and macros have, and that filters and the lines of a
-- macro keep
pub record IsOfLines (g : Gathering) (Q : LineState → Answer → Type 0) : Type 0 where
  pub printed : (s : LineState) (text : List ℕ) → Q s (printing s text)
  pub command : (c : Command) (words : List (List ℕ)) (v : Values) (s : LineState) → IfOk (command_answer c words v g s) (λ answer. Q s answer)
  pub begun : (words : List (List ℕ)) (s : LineState) → IfOk (macros_after_defcmd (macros_of s) words) (λ m. Q s (with_macros s m))
  pub stored : (line : List ℕ) (s : LineState) → IfOk (macros_after_line (macros_of s) line) (λ m. Q s (with_macros s m))
  pub filtered : (s : LineState) (a : Answer) (out : List ℕ) → Q s a → Q s (record a { output = out })
  pub followed : (s : LineState) (first rest : Answer) → Q s first → Q first.state rest → Q s rest

module _ (g : Gathering) (Q : LineState → Answer → Type 0) (of : IsOfLines g Q) where
  -- a refusal says nothing
  abbrev Holds : LineState → Result Answer Diagnostic → Type 0
  Holds s r = IfOk r (λ answer. Q s answer)

  command-holds : (c : Command) (words : List (List ℕ)) (s : LineState) → Holds s (command_meaning c words g s)
  unfolding command_meaning
  command-holds c words s =
      after_any (λ (answer : Answer). Q s answer) (values_of s words (row_of (Run c)).expressions) (λ v. command_answer c words v g s) (λ v. of.command c words v s)

  words-hold : (c : FirstWord) (words : List (List ℕ)) (s : LineState) → Holds s (words_meaning c words g s)
  unfolding words_meaning
  words-hold first_word.Nothing words s = of.printed s []
  words-hold (first_word.Command c) words s = command-holds c words s
  words-hold first_word.Define words s = tt
  words-hold (first_word.Macro number) words s = tt
  words-hold first_word.WrongCount words s = tt
  words-hold first_word.Unknown words s = tt

  line-holds : (words : List (List ℕ)) (s : LineState) (r : Result Answer Diagnostic) → Holds s r → Q s (answer_or_line words s r)
  line-holds words s (Ok answer) holds = holds
  line-holds words s (Err d) holds = of.printed s _

  unless_refused-holds : (o : Option LexFault) (s : LineState) (a : Answer) → Q s a → Q s (unless_refused o s a)
  unless_refused-holds None s a holds = holds
  unless_refused-holds (Some why) s a holds = of.printed s _

  cut_answer-holds : (line : List ℕ) (s : LineState) (a : Answer) → Q s a → Q s (cut_answer line s a)
  unfolding cut_answer
  cut_answer-holds line s a holds = unless_refused-holds (lex_refusal line) s _ (of.filtered s a _ holds)

  inner-holds : (line : List ℕ) (s : LineState) → Q s (inner_line line g s)
  unfolding inner_line inner_answer inner_meaning
  inner-holds line s =
      let words = command_words line in
      cut_answer-holds line s (answer_or_line words s (words_meaning (first_word_of s.macros words) words g s)) (line-holds words s (words_meaning (first_word_of s.macros words) words g s) (words-hold (first_word_of s.macros words) words s))

  first_then-holds : (s : LineState) (first rest : Answer) → Q s first → Q first.state rest → Q s (first_then first rest)
  first_then-holds s first rest holds then =
      either (λ (a : Answer). Q s a) (goes_on first.outcome) (record rest { output = first.output ++ rest.output }) first (of.filtered s rest _ (of.followed s first rest holds then)) holds

  macro-holds : (lines : List (List ℕ)) (s : LineState) → Q s (macro_answer lines g s)
  macro-holds [] s = of.printed s []
  macro-holds (line ∷ rest) s =
      first_then-holds s (inner_line line g s) (macro_answer rest g (inner_line line g s).state) (inner-holds line s) (macro-holds rest (inner_line line g s).state)

  outer-holds : (c : FirstWord) (words : List (List ℕ)) (s : LineState) → Holds s (outer_meaning c words g s)
  unfolding outer_meaning
  outer-holds first_word.Define words s =
      after (λ (m : MacroList). Q s (with_macros s m)) (λ (answer : Answer). Q s answer) (macros_after_defcmd (macros_of s) words) (λ m. Ok (with_macros s m)) (of.begun words s) (λ m q. q)
  outer-holds (first_word.Macro number) words s = tt
  outer-holds first_word.Nothing words s = words-hold first_word.Nothing words s
  outer-holds (first_word.Command c) words s = words-hold (first_word.Command c) words s
  outer-holds first_word.WrongCount words s = words-hold first_word.WrongCount words s
  outer-holds first_word.Unknown words s = words-hold first_word.Unknown words s

  macro_or_words-holds : (o : Option ℕ) (words : List (List ℕ)) (s : LineState) → Q s (macro_or_words o words g s)
  unfolding outer_answer
  macro_or_words-holds None words s =
      line-holds words s (outer_meaning (first_word_of s.macros words) words g s) (outer-holds (first_word_of s.macros words) words s)
  macro_or_words-holds (Some number) words s = macro-holds (lines_in (slice_get s.macros number)) s

  cut_line-holds : (line : List ℕ) (s : LineState) → Q s (cut_line line g s)
  unfolding cut_line words_answer
  cut_line-holds line s =
      let words = command_words line in
      cut_answer-holds line s (macro_or_words (macro_called (first_word_of s.macros words) words) words g s) (macro_or_words-holds (macro_called (first_word_of s.macros words) words) words s)

  stored-holds : (line : List ℕ) (s : LineState) → Q s (stored_answer line s)
  unfolding stored_answer
  stored-holds line s =
      line-holds [] s (macros_after_line (macros_of s) line >>= λ m. Ok (with_macros s m)) (after (λ (m : MacroList). Q s (with_macros s m)) (λ (answer : Answer). Q s answer) (macros_after_line (macros_of s) line) (λ m. Ok (with_macros s m)) (of.stored line s) (λ m q. q))

  -- it holds of every line
  pub holds_of_lines : (line : List ℕ) (s : LineState) → Q s (line_answer line g s)
  unfolding line_answer
  holds_of_lines line s =
      either (λ (a : Answer). Q s a) s.defining (stored_answer line s) (cut_line line g s) (stored-holds line s) (cut_line-holds line s)
