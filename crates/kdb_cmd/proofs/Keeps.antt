-- No line changes segments, symbols or the number of harts, and each line keeps the debugger's limits.
use Rattle.std.proofs.Common.{ℕ, eqb, List, [], Option, Some, None, Result, Ok, Err, refl, ◌∙◌}
use Rattle.std.specs.Prelude.{IfOk, slice_set}
use Rattle.std.proofs.lemmas.List.{length-map, length-set}
use Rattle.mach_base.specs.Machine.{Context, Memory, LineState}
use Rattle.kdb_mem.specs.declared.mem_fault.MemFault.{MemFault}
use Rattle.kdb_mem.specs.declared.mem_fault.MemFault.TheVariants.{BadAddr, TooWide, OutOfMemory}
use Rattle.kdb_mem.specs.Changed.{modify_refusal}
use Rattle.kdb_reg.specs.Registers.{is_zero, with_named, set_text}
use Rattle.kdb_env.specs.Variables.{Variables, AreVariables}
use Rattle.kdb_macro.specs.Macros.{MacroList, AreMacros}
use Rattle.kdb_view.specs.declared.arguments.Values.{Values}
use Rattle.kdb_view.specs.declared.breakpoints.BreakpointAnswer.{BreakpointAnswer}
use Rattle.kdb_table.specs.declared.commands.Command.{Command}
use Rattle.kdb_table.specs.declared.commands.Command.TheVariants as command
use Rattle.kdb_table.specs.declared.diagnostics.Diagnostic.{Diagnostic}
use Rattle.kdb_table.specs.declared.diagnostics.Diagnostic.TheVariants as diagnostic
use Rattle.kdb_cmd.specs.declared.outcomes.Outcome.TheVariants.{Stay, Go}
use Rattle.kdb_cmd.specs.declared.command.registers.RegisterWrite.{RegisterWrite}
use Rattle.kdb_cmd.specs.declared.desk.Gathering.{Gathering}
use Rattle.kdb_view.specs.State.{current_context}
use Rattle.kdb_cmd.specs.Answer.{Answer, with_current}
use Rattle.kdb_table.specs.Words.{word_at}
use Rattle.kdb_view.specs.Arguments.{address}
use Rattle.kdb_cmd.specs.command.MemoryChange.{with_memory_write, write_or_diagnostic, write_answer}
use Rattle.kdb_cmd.specs.command.Registers.{rm_wanted, register_set, rm_answer}
use Rattle.kdb_view.specs.Breakpoints.{Places, bp_answer, change_answer}
use Rattle.kdb_view.specs.Processors.{cpu_answer}
use Rattle.kdb_view.specs.Variables.{assignment_of, variables_after}
use Rattle.kdb_cmd.specs.command.SetVariable.{set_answer}
use Rattle.kdb_cmd.specs.command.SessionExit.{with_pc, go_answer, ss_refusal, step_unless}
use Rattle.kdb_cmd.specs.Meanings.{with_breaks, with_processor, display_text, command_answer}
use Rattle.kdb_cmd.specs.MacroDefinition.{macros_after_line, macros_after_defcmd}
use Rattle.kdb_cmd.specs.Line.{macros_of, with_macros, line_said}
use Rattle.kdb_cmd.specs.Limits.{Keeps}
use Rattle.kdb_cmd.proofs.Walk.{after_any, after, either, IsOfLines, holds_of_lines}
use Rattle.kdb_cmd.proofs.Apart.{AreAmong, AreAmong-sound, StaySound, change_answer-among, bp_answer-sound}
use Rattle.kdb_cmd.proofs.Limits.{variables_after-are, macro_begun-are, line_stored-are}

Keeps-same : (s : LineState) → Keeps s s
Keeps-same s = record { segments = refl; symbols = refl; harts = refl; limits = λ w. w }

Keeps-then : (a b c : LineState) → Keeps a b → Keeps b c → Keeps a c
Keeps-then a b c first rest = record {
  segments = rest.segments ∙ first.segments;
  symbols = rest.symbols ∙ first.symbols;
  harts = rest.harts ∙ first.harts;
  limits = λ w. rest.limits (first.limits w);
}

-- an answer keeps what it shall, and a refusal says nothing
abbrev Kept : LineState → Result Answer Diagnostic → Type 0
Kept s r = IfOk r (λ answer. Keeps s answer.state)

-- `mm`
with_memory_write-keeps : (s : LineState) (addr width value : ℕ) → Keeps s (with_memory_write s addr width value)
with_memory_write-keeps s addr width value = record {
  segments = refl;
  symbols = refl;
  harts = length-map s.harts _;
  limits = λ l. record {
    places = l.places;
    variables = l.variables;
    macros = l.macros;
    breakpoints = record { apart = l.breakpoints.apart; text = l.breakpoints.text };
  };
}

write_or_diagnostic-keeps : (o : Option MemFault) (s : LineState) (addr width value : ℕ) → Kept s (write_or_diagnostic o s addr width value)
write_or_diagnostic-keeps None s addr width value = with_memory_write-keeps s addr width value
write_or_diagnostic-keeps (Some (BadAddr bad)) s addr width value = tt
write_or_diagnostic-keeps (Some TooWide) s addr width value = tt
write_or_diagnostic-keeps (Some OutOfMemory) s addr width value = tt

mm-keeps : (addr width value : ℕ) (s : LineState) → Kept s (write_answer addr width value s)
unfolding write_answer
mm-keeps addr width value s = write_or_diagnostic-keeps (modify_refusal s.memory addr width value) s addr width value

-- the context of the current processor is another one
with_hart-keeps : (s : LineState) (i : ℕ) (c : Context) → Keeps s (record s { harts = slice_set s.harts i c })
with_hart-keeps s i c = record {
  segments = refl;
  symbols = refl;
  harts = length-set s.harts i c;
  limits = λ l. record { places = l.places; variables = l.variables; macros = l.macros; breakpoints = l.breakpoints };
}

-- `rm`
register_set-keeps : (s : LineState) (w : RegisterWrite) → Kept s (register_set s w)
register_set-keeps s w =
    let c = with_named (current_context s) w.reg w.value in
    either (λ (r : Result Answer Diagnostic). Kept s r) (is_zero w.reg) (Err (diagnostic.BadRegister 1)) (Ok (record { output = set_text w.reg w.value; state = with_current s c; outcome = Stay })) tt (with_hart-keeps s s.current c)

rm-keeps : (words : List (List ℕ)) (s : LineState) → Kept s (rm_answer words s)
unfolding rm_answer
rm-keeps words s =
    after_any (λ (answer : Answer). Keeps s answer.state) (rm_wanted s words) (register_set s) (λ w. register_set-keeps s w)

-- `set`
set-keeps : (pair : List ℕ × List ℕ) (s : LineState) → Kept s (set_answer pair s)
set-keeps pair s =
    after (λ (new : Variables). AreVariables s.variables → AreVariables new) (λ (answer : Answer). Keeps s answer.state) (variables_after s.variables pair) _ (variables_after-are s.variables pair) (λ new are. record {
      segments = refl;
      symbols = refl;
      harts = refl;
      limits = λ l. record { places = l.places; variables = are l.variables; macros = l.macros; breakpoints = l.breakpoints };
    })

-- `bp`, `bc`, `bd`, `be`
with_places-keeps : (s : LineState) (places : Places) → StaySound s.memory s.places places → Keeps s (record s { places = places })
with_places-keeps s places stay = record {
  segments = refl;
  symbols = refl;
  harts = refl;
  limits = λ l. record { places = stay.many ∙ l.places; variables = l.variables; macros = l.macros; breakpoints = stay.sound l.breakpoints };
}

sound-among : (m : Memory) (old new : Places) → AreAmong old new → StaySound m old new
sound-among m old new among = record { many = among.many; sound = AreAmong-sound m old new among }

-- `cpu`
with_processor-keeps : (s : LineState) (n : ℕ) → Keeps s (record s { current = n })
with_processor-keeps s n = record {
  segments = refl;
  symbols = refl;
  harts = refl;
  limits = λ l. record { places = l.places; variables = l.variables; macros = l.macros; breakpoints = l.breakpoints };
}

-- `ss` and `go`
step_unless-keeps : (o : Option Diagnostic) (s : LineState) → Kept s (step_unless o s)
step_unless-keeps None s = Keeps-same s
step_unless-keeps (Some why) s = tt

with_pc-keeps : (s : LineState) (pc : Option ℕ) → Keeps s (with_pc s pc)
with_pc-keeps s None = Keeps-same s
with_pc-keeps s (Some pc) = with_hart-keeps s s.current (record (current_context s) { pc = pc })

go-keeps : (pc : Option ℕ) (entry : ℕ) (s : LineState) → Kept s (go_answer pc entry s)
unfolding go_answer
go-keeps pc entry s =
    either (λ (r : Result Answer Diagnostic). Kept s r) (eqb s.current entry) (Ok (record { output = []; state = with_pc s pc; outcome = Go })) (Err (diagnostic.EnteredOn entry)) (with_pc-keeps s pc) tt

-- a command
command-keeps : (g : Gathering) (c : Command) (words : List (List ℕ)) (v : Values) (s : LineState) → Kept s (command_answer c words v g s)
unfolding command_answer
command-keeps g (command.Show what) words v s = after_any (λ (answer : Answer). Keeps s answer.state) (display_text what (word_at words 0) v g.gathered s) _ (λ text. Keeps-same s)
command-keeps g command.Mm words v s = mm-keeps (address v) _ _ s
command-keeps g command.MmWidth words v s = mm-keeps (address v) _ _ s
command-keeps g command.Rm words v s = rm-keeps words s
command-keeps g command.Bp words v s =
    after (λ (answer : BreakpointAnswer). StaySound s.memory s.places answer.breaks) (λ (answer : Answer). Keeps s answer.state) (bp_answer s (address v)) (λ answer. Ok (with_breaks s answer)) (bp_answer-sound s (address v)) (λ answer stay. with_places-keeps s answer.breaks stay)
command-keeps g (command.Change change) words v s =
    after (λ (answer : BreakpointAnswer). AreAmong s.places answer.breaks) (λ (answer : Answer). Keeps s answer.state) (change_answer s.places change (word_at words 1)) (λ answer. Ok (with_breaks s answer)) (change_answer-among s.places change (word_at words 1)) (λ answer among. with_places-keeps s answer.breaks (sound-among s.memory s.places answer.breaks among))
command-keeps g command.Cpu words v s =
    after_any (λ (answer : Answer). Keeps s answer.state) (cpu_answer g.gathered (word_at words 1)) (λ answer. Ok (with_processor s answer)) (λ answer. with_processor-keeps s answer.current)
command-keeps g command.SetOneWord words v s =
    after_any (λ (answer : Answer). Keeps s answer.state) (assignment_of (word_at words 1)) (λ pair. set_answer pair s) (λ pair. set-keeps pair s)
command-keeps g command.Set words v s = set-keeps (word_at words 1, word_at words 2) s
command-keeps g command.Ss words v s = step_unless-keeps (ss_refusal g.entry s) s
command-keeps g command.Go words v s = go-keeps v.first g.entry s

the-macros : (m : MacroList) → AreMacros m → AreMacros (record { macros = m.macros; defining = m.defining })
the-macros m are = record { few = are.few; short = are.short; begun = are.begun }

with_macros-keeps : (s : LineState) (m : MacroList) → (AreMacros (macros_of s) → AreMacros m) → Keeps s (with_macros s m).state
with_macros-keeps s m kept = record {
  segments = refl;
  symbols = refl;
  harts = refl;
  limits = λ l. record { places = l.places; variables = l.variables; macros = the-macros m (kept l.macros); breakpoints = l.breakpoints };
}

macros-keep : (s : LineState) (r : Result MacroList Diagnostic) → IfOk r (λ m. AreMacros (macros_of s) → AreMacros m) → IfOk r (λ m. Keeps s (with_macros s m).state)
macros-keep s (Ok m) kept = with_macros-keeps s m kept
macros-keep s (Err d) kept = tt

of-lines : (g : Gathering) → IsOfLines g (λ s a. Keeps s a.state)
of-lines g = record {
  printed = λ s text. Keeps-same s;
  command = λ c words v s. command-keeps g c words v s;
  begun = λ words s. macros-keep s (macros_after_defcmd (macros_of s) words) (macro_begun-are (macros_of s) words);
  stored = λ line s. macros-keep s (macros_after_line (macros_of s) line) (line_stored-are (macros_of s) line);
  filtered = λ s a out keeps. keeps;
  followed = λ s first rest keeps then. Keeps-then s first.state rest.state keeps then;
}

-- Whatever the line, the session and the state: segments, symbols and the number of harts stay, and so do the limits.
pub line_keeps : (gathered entry : ℕ) (line : List ℕ) (s : LineState) → Keeps s (line_said gathered entry line s).state
line_keeps gathered entry line s =
    let g : Gathering = record { gathered = gathered; entry = entry } in
    holds_of_lines g (λ s a. Keeps s a.state) (of-lines g) line s
