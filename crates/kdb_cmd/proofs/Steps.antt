-- A line that leaves the session for one instruction leaves the processor that was entered on not halted.
use Rattle.std.proofs.Common.{◌≡◌, ℕ, eqb, Bool, true, false, not, cond, List, [], Option, Some, None, Result, Ok, Err, refl, sym, ap, ◌∙◌}
use Rattle.std.specs.Prelude.{IfOk}
use Rattle.std.proofs.lemmas.Bool.{eqb-true}
use Rattle.mach_base.specs.Machine.{LineState}
use Rattle.mach_base.specs.Sequence.{◌>>=◌}
use Rattle.hart_ctx.specs.Context.{context_of}
use Rattle.kdb_mem.specs.declared.mem_fault.MemFault.{MemFault}
use Rattle.kdb_mem.specs.declared.mem_fault.MemFault.TheVariants.{BadAddr, TooWide, OutOfMemory}
use Rattle.kdb_mem.specs.Changed.{modify_refusal}
use Rattle.kdb_macro.specs.Macros.{MacroList}
use Rattle.kdb_reg.specs.Registers.{is_zero}
use Rattle.kdb_view.specs.declared.arguments.Values.{Values}
use Rattle.kdb_table.specs.declared.commands.Command.{Command}
use Rattle.kdb_table.specs.declared.commands.Command.TheVariants as command
use Rattle.kdb_table.specs.declared.diagnostics.Diagnostic.{Diagnostic}
use Rattle.kdb_table.specs.declared.diagnostics.Diagnostic.TheVariants as diagnostic
use Rattle.kdb_cmd.specs.declared.outcomes.Outcome.{Outcome}
use Rattle.kdb_cmd.specs.declared.outcomes.Outcome.TheVariants.{Stay, Go, Step}
use Rattle.kdb_cmd.specs.declared.desk.Gathering.{Gathering}
use Rattle.kdb_view.specs.State.{current_context}
use Rattle.kdb_cmd.specs.Answer.{Answer}
use Rattle.kdb_table.specs.Words.{word_at}
use Rattle.kdb_view.specs.Arguments.{address}
use Rattle.kdb_cmd.specs.command.MemoryChange.{write_or_diagnostic, write_answer}
use Rattle.kdb_cmd.specs.command.Registers.{rm_wanted, register_set, rm_answer}
use Rattle.kdb_view.specs.Breakpoints.{bp_answer, change_answer}
use Rattle.kdb_view.specs.Processors.{cpu_answer}
use Rattle.kdb_view.specs.Variables.{assignment_of, variables_after}
use Rattle.kdb_cmd.specs.command.SessionExit.{go_answer, ss_refusal, step_unless, ss_answer}
use Rattle.kdb_cmd.specs.Meanings.{display_text, command_answer}
use Rattle.kdb_cmd.specs.MacroDefinition.{macros_after_line, macros_after_defcmd}
use Rattle.kdb_cmd.specs.Line.{macros_of, with_macros, line_said}
use Rattle.kdb_cmd.proofs.Walk.{after_any, either, IsOfLines, holds_of_lines}

-- a step leaves the processor of this number not halted
abbrev Runs : ℕ → Answer → Type 0
Runs entry a = a.outcome ≡ Step → (context_of a.state.harts entry).halted ≡ false

-- a refusal says nothing
abbrev IfRuns : ℕ → Result Answer Diagnostic → Type 0
IfRuns entry r = IfOk r (λ answer. Runs entry answer)

no-step : (entry : ℕ) (a : Answer) (o : Outcome) → a.outcome ≡ o → (o ≡ Step → ⊥) → Runs entry a
no-step entry a o is never = λ step. absurd (never (sym is ∙ step))

stay-not : Stay ≡ Step → ⊥
stay-not e = absurd (cc)

go-not : Go ≡ Step → ⊥
go-not e = absurd (cc)

written-runs : (entry : ℕ) (o : Option MemFault) (s : LineState) (addr width value : ℕ) → IfRuns entry (write_or_diagnostic o s addr width value)
written-runs entry None s addr width value = λ step. absurd (stay-not step)
written-runs entry (Some (BadAddr bad)) s addr width value = tt
written-runs entry (Some TooWide) s addr width value = tt
written-runs entry (Some OutOfMemory) s addr width value = tt

mm-runs : (entry width addr value : ℕ) (s : LineState) → IfRuns entry (write_answer addr width value s)
unfolding write_answer
mm-runs entry width addr value s = written-runs entry (modify_refusal s.memory addr width value) s addr width value

rm-runs : (entry : ℕ) (words : List (List ℕ)) (s : LineState) → IfRuns entry (rm_answer words s)
unfolding rm_answer
rm-runs entry words s =
    after_any (λ (a : Answer). Runs entry a) (rm_wanted s words) (register_set s) (λ w. either (λ (r : Result Answer Diagnostic). IfRuns entry r) (is_zero w.reg) (Err (diagnostic.BadRegister 1)) _ tt (λ step. absurd (stay-not step)))

go-runs : (pc : Option ℕ) (entry : ℕ) (s : LineState) → IfRuns entry (go_answer pc entry s)
unfolding go_answer
go-runs pc entry s =
    either (λ (r : Result Answer Diagnostic). IfRuns entry r) (eqb s.current entry) _ (Err (diagnostic.EnteredOn entry)) (λ step. absurd (go-not step)) tt

set-runs : (entry : ℕ) (pair : List ℕ × List ℕ) (s : LineState) → IfRuns entry (variables_after s.variables pair >>= λ vars. Ok (record { output = []; state = record s { variables = vars }; outcome = Stay }))
set-runs entry pair s = after_any (λ (a : Answer). Runs entry a) (variables_after s.variables pair) _ (λ vars step. absurd (stay-not step))

ss-cases : (here halted : Bool) (entry current : ℕ) (s : LineState) → (here ≡ true → halted ≡ false → (context_of s.harts entry).halted ≡ false) → IfRuns entry (step_unless (cond (not here) (Some (diagnostic.EnteredOn entry)) (cond halted (Some (diagnostic.IsHalted current)) None)) s)
ss-cases true true entry current s runs = tt
ss-cases true false entry current s runs = λ step. runs refl refl
ss-cases false halted entry current s runs = tt

same-hart : (s : LineState) (entry : ℕ) (halted : Bool) → s.current ≡ entry → (current_context s).halted ≡ halted → (context_of s.harts entry).halted ≡ halted
same-hart s entry halted same is = ap (λ (n : ℕ). (context_of s.harts n).halted) (sym same) ∙ is

ss-runs : (entry : ℕ) (s : LineState) → IfRuns entry (ss_answer entry s)
unfolding ss_refusal
ss-runs entry s =
    ss-cases (eqb s.current entry) (current_context s).halted entry s.current s (λ here runs. same-hart s entry false (eqb-true s.current entry here) runs)

command-runs : (g : Gathering) (c : Command) (words : List (List ℕ)) (v : Values) (s : LineState) → IfRuns g.entry (command_answer c words v g s)
unfolding command_answer
command-runs g (command.Show what) words v s = after_any (λ (a : Answer). Runs g.entry a) (display_text what (word_at words 0) v g.gathered s) _ (λ text step. absurd (stay-not step))
command-runs g command.Mm words v s = mm-runs g.entry _ (address v) _ s
command-runs g command.MmWidth words v s = mm-runs g.entry _ (address v) _ s
command-runs g command.Rm words v s = rm-runs g.entry words s
command-runs g command.Bp words v s = after_any (λ (a : Answer). Runs g.entry a) (bp_answer s (address v)) _ (λ answer step. absurd (stay-not step))
command-runs g (command.Change change) words v s = after_any (λ (a : Answer). Runs g.entry a) (change_answer s.places change (word_at words 1)) _ (λ answer step. absurd (stay-not step))
command-runs g command.Cpu words v s = after_any (λ (a : Answer). Runs g.entry a) (cpu_answer g.gathered (word_at words 1)) _ (λ answer step. absurd (stay-not step))
command-runs g command.SetOneWord words v s = after_any (λ (a : Answer). Runs g.entry a) (assignment_of (word_at words 1)) _ (λ pair. set-runs g.entry pair s)
command-runs g command.Set words v s = set-runs g.entry (word_at words 1, word_at words 2) s
command-runs g command.Ss words v s = ss-runs g.entry s
command-runs g command.Go words v s = go-runs v.first g.entry s

any-macros : (r : Result MacroList Diagnostic) (entry : ℕ) (s : LineState) → IfOk r (λ m. Runs entry (with_macros s m))
any-macros (Ok m) entry s = λ step. absurd (stay-not step)
any-macros (Err d) entry s = tt

of-lines : (g : Gathering) → IsOfLines g (λ s a. Runs g.entry a)
of-lines g = record {
  printed = λ s text step. absurd (stay-not step);
  command = λ c words v s. command-runs g c words v s;
  begun = λ words s. any-macros (macros_after_defcmd (macros_of s) words) g.entry s;
  stored = λ line s. any-macros (macros_after_line (macros_of s) line) g.entry s;
  filtered = λ s a out runs. runs;
  followed = λ s first rest runs then. then;
}

pub line_steps : (gathered entry : ℕ) (line : List ℕ) (s : LineState) → (line_said gathered entry line s).outcome ≡ Step → (context_of (line_said gathered entry line s).state.harts entry).halted ≡ false
line_steps gathered entry line s =
    let g : Gathering = record { gathered = gathered; entry = entry } in
    holds_of_lines g (λ s a. Runs entry a) (of-lines g) line s
