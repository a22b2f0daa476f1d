-- What the words of a line do, by cases, one for each command.
use Rattle.std.specs.Prelude.{ℕ, List, [], Result, Ok, Err}
use Rattle.mach_base.specs.Machine.{LineState}
use Rattle.mach_base.specs.Sequence.{◌>>=◌}
use Rattle.kdb_reg.specs.Registers.{registers_text}
use Rattle.kdb_view.specs.declared.arguments.Values.{Values}
use Rattle.kdb_view.specs.declared.breakpoints.BreakpointAnswer.{BreakpointAnswer}
use Rattle.kdb_table.specs.declared.commands.Command.{Command}
use Rattle.kdb_table.specs.declared.commands.Command.TheVariants as command
use Rattle.kdb_table.specs.declared.commands.Entry.TheVariants.{Run}
use Rattle.kdb_table.specs.declared.commands.ShowCommand.{ShowCommand}
use Rattle.kdb_table.specs.declared.commands.ShowCommand.TheVariants as show
use Rattle.kdb_table.specs.declared.diagnostics.Diagnostic.{Diagnostic}
use Rattle.kdb_table.specs.declared.diagnostics.Diagnostic.TheVariants.{WrongArguments, UnknownCommand, NestedMacro}
use Rattle.kdb_cmd.specs.declared.line.first_word.FirstWord.{FirstWord}
use Rattle.kdb_cmd.specs.declared.line.first_word.FirstWord.TheVariants as first_word
use Rattle.kdb_cmd.specs.declared.outcomes.Outcome.TheVariants.{Stay}
use Rattle.kdb_view.specs.declared.processors.CpuAnswer.{CpuAnswer}
use Rattle.kdb_cmd.specs.declared.desk.Gathering.{Gathering}
use Rattle.kdb_view.specs.State.{current_context}
use Rattle.kdb_cmd.specs.Answer.{Answer}
use Rattle.kdb_table.specs.Words.{word_at}
use Rattle.kdb_table.specs.Diagnostics.{diagnostic_text}
use Rattle.kdb_table.specs.Table.{row_of, spelled_width}
use Rattle.kdb_view.specs.Arguments.{address, values_of}
use Rattle.kdb_view.specs.Scope.{width_in}
use Rattle.kdb_view.specs.MemoryDisplay.{md_text, md_count_text, mdr_text, mds_text, id_text}
use Rattle.kdb_cmd.specs.command.MemoryChange.{mm_answer}
use Rattle.kdb_cmd.specs.command.Registers.{rm_answer}
use Rattle.kdb_view.specs.Breakpoints.{bl_text, bp_answer, change_answer}
use Rattle.kdb_view.specs.Processors.{cpu_text, cpu_answer, bt_text, btc_text}
use Rattle.kdb_view.specs.Variables.{variables_text, assignment_of}
use Rattle.kdb_cmd.specs.command.SetVariable.{set_answer}
use Rattle.kdb_cmd.specs.command.SessionExit.{go_answer, ss_answer}
use Rattle.kdb_table.specs.Help.{help_text}

-- what a command shows that is spelled with this word and has these values, where these processors are in the session
unfoldable pub display_text : ShowCommand → List ℕ → Values → ℕ → LineState → Result (List ℕ) Diagnostic
display_text show.Md word v gathered s = md_text s (width_in s.variables) v
display_text show.MdWidth word v gathered s = md_text s (spelled_width word) v
display_text show.MdCount word v gathered s = md_count_text s word v
display_text show.Mdr word v gathered s = mdr_text s v
display_text show.Mds word v gathered s = mds_text s v
display_text show.Id word v gathered s = id_text s v
display_text show.Rd word v gathered s = Ok (registers_text (current_context s))
display_text show.BpList word v gathered s = Ok (bl_text s.symbols s.places)
display_text show.Bl word v gathered s = Ok (bl_text s.symbols s.places)
display_text show.Bt word v gathered s = Ok (bt_text s)
display_text show.Btc word v gathered s = Ok (btc_text gathered s)
display_text show.CpuList word v gathered s = Ok (cpu_text gathered s)
display_text show.Env word v gathered s = Ok (variables_text s.variables)
display_text show.Help word v gathered s = Ok help_text

-- the answer that prints a text and changes nothing
abbrev pub printing : LineState → List ℕ → Answer
printing s text = record { output = text; state = s; outcome = Stay }

-- the answer with these breakpoints
abbrev pub with_breaks : LineState → BreakpointAnswer → Answer
with_breaks s answer = printing (record s { places = answer.breaks }) answer.text

-- the answer with this processor as the current one
abbrev pub with_processor : LineState → CpuAnswer → Answer
with_processor s answer = printing (record s { current = answer.current }) answer.text

-- what a command does with its words and the values of its arguments
unfoldable pub command_answer : Command → List (List ℕ) → Values → Gathering → LineState → Result Answer Diagnostic
command_answer (command.Show what) words v g s = display_text what (word_at words 0) v g.gathered s >>= λ text. Ok (printing s text)
command_answer command.Mm words v g s = mm_answer (width_in s.variables) v s
command_answer command.MmWidth words v g s = mm_answer (spelled_width (word_at words 0)) v s
command_answer command.Rm words v g s = rm_answer words s
command_answer command.Bp words v g s = bp_answer s (address v) >>= λ answer. Ok (with_breaks s answer)
command_answer (command.Change change) words v g s = change_answer s.places change (word_at words 1) >>= λ answer. Ok (with_breaks s answer)
command_answer command.Cpu words v g s = cpu_answer g.gathered (word_at words 1) >>= λ answer. Ok (with_processor s answer)
command_answer command.SetOneWord words v g s = assignment_of (word_at words 1) >>= λ pair. set_answer pair s
command_answer command.Set words v g s = set_answer (word_at words 1, word_at words 2) s
command_answer command.Ss words v g s = ss_answer g.entry s
command_answer command.Go words v g s = go_answer v.first g.entry s

-- what a command does with its words: its arguments have their values first, where they are expressions
unfoldable pub command_meaning : Command → List (List ℕ) → Gathering → LineState → Result Answer Diagnostic
command_meaning c words g s = values_of s words (row_of (Run c)).expressions >>= λ v. command_answer c words v g s

-- what words do that call no macro and begin none
unfoldable pub words_meaning : FirstWord → List (List ℕ) → Gathering → LineState → Result Answer Diagnostic
words_meaning first_word.Nothing words g s = Ok (printing s [])
words_meaning (first_word.Command c) words g s = command_meaning c words g s
words_meaning first_word.Define words g s = Err NestedMacro
words_meaning (first_word.Macro number) words g s = Err NestedMacro
words_meaning first_word.WrongCount words g s = Err WrongArguments
words_meaning first_word.Unknown words g s = Err UnknownCommand

-- the answer, or the line of the diagnostic, which changes nothing
abbrev pub answer_or_line : List (List ℕ) → LineState → Result Answer Diagnostic → Answer
answer_or_line words s (Ok answer) = answer
answer_or_line words s (Err diagnostic) = printing s (diagnostic_text words diagnostic)
