-- No line changes which accesses to memory fault.
use Rattle.std.proofs.Common.{◌≡◌, ℕ, zero, suc, ◌+◌, ◌≤◌, eqb, ◌&&◌, Bool, true, List, [], Option, Some, None, Result, Ok, Err, refl, ap, ◌∙◌, arith}
use Rattle.std.specs.Prelude.{IfOk, is_some}
use Rattle.mach_base.specs.Machine.{Memory, LineState, byte_at}
use Rattle.mach_base.specs.Bytes.{is_mapped, all_bytes}
use Rattle.mem_map.specs.Access.{access_fault, after_store}
use Rattle.mem_map.specs.declared.rights.Access.{Access}
use Rattle.mem_map.proofs.Stores.{write_keeps}
use Rattle.kdb_mem.specs.declared.mem_fault.MemFault.{MemFault}
use Rattle.kdb_mem.specs.declared.mem_fault.MemFault.TheVariants.{BadAddr, TooWide, OutOfMemory}
use Rattle.kdb_mem.specs.Range.{first_unmapped}
use Rattle.kdb_mem.specs.Changed.{modify_refusal, address_or}
use Rattle.kdb_mem.proofs.Writes.{all_mapped}
use Rattle.kdb_reg.specs.Registers.{is_zero, with_named, set_text}
use Rattle.kdb_macro.specs.Macros.{MacroList}
use Rattle.kdb_table.specs.declared.commands.Command.{Command}
use Rattle.kdb_table.specs.declared.commands.Command.TheVariants as command
use Rattle.kdb_table.specs.declared.diagnostics.Diagnostic.{Diagnostic}
use Rattle.kdb_table.specs.declared.diagnostics.Diagnostic.TheVariants as diagnostic
use Rattle.kdb_table.specs.Words.{word_at}
use Rattle.kdb_view.specs.declared.arguments.Values.{Values}
use Rattle.kdb_view.specs.State.{current_context}
use Rattle.kdb_view.specs.Arguments.{address}
use Rattle.kdb_view.specs.Breakpoints.{bp_answer, change_answer}
use Rattle.kdb_view.specs.Processors.{cpu_answer}
use Rattle.kdb_view.specs.Variables.{assignment_of, variables_after}
use Rattle.kdb_cmd.specs.declared.outcomes.Outcome.TheVariants.{Stay, Go}
use Rattle.kdb_cmd.specs.declared.command.registers.RegisterWrite.{RegisterWrite}
use Rattle.kdb_cmd.specs.declared.desk.Gathering.{Gathering}
use Rattle.kdb_cmd.specs.Answer.{Answer, with_current}
use Rattle.kdb_cmd.specs.command.MemoryChange.{with_memory_write, write_or_diagnostic, write_answer}
use Rattle.kdb_cmd.specs.command.Registers.{rm_wanted, register_set, rm_answer}
use Rattle.kdb_cmd.specs.command.SetVariable.{set_answer}
use Rattle.kdb_cmd.specs.command.SessionExit.{with_pc, go_answer, ss_refusal, step_unless}
use Rattle.kdb_cmd.specs.Meanings.{with_breaks, with_processor, display_text, command_answer}
use Rattle.kdb_cmd.specs.MacroDefinition.{macros_after_line, macros_after_defcmd}
use Rattle.kdb_cmd.specs.Line.{macros_of, with_macros, line_said}
use Rattle.kdb_cmd.proofs.Walk.{after_any, either, IsOfLines, holds_of_lines}

-- the same accesses fault
abbrev FaultsAlike : LineState → LineState → Type 0
FaultsAlike s t = (access : Access) (at size : ℕ) → access_fault t.memory access at size ≡ access_fault s.memory access at size

alike : (s t : LineState) → t.memory ≡ s.memory → FaultsAlike s t
alike s t e access at size = ap (λ (m : Memory). access_fault m access at size) e

-- `mm`

mapped-all : (m : Memory) (addr width n : ℕ) → first_unmapped m addr width ≡ None → n ≤ width → all_bytes (is_mapped m) addr n ≡ true
mapped-all m addr width zero none few = refl
mapped-all m addr width (suc n) none few = both (all_bytes (is_mapped m) addr n) (is_mapped m (addr + n)) (mapped-all m addr width n none (omega arith)) (by_byte (byte_at m (addr + n)) refl)
  where
    both : (a b : Bool) → a ≡ true → b ≡ true → (a && b) ≡ true
    both a b p q = rw (p, q) refl

    by_byte : (o : Option ℕ) → byte_at m (addr + n) ≡ o → is_some o ≡ true
    by_byte None e = absurd (all_mapped m addr width n none (omega arith) e)
    by_byte (Some b) e = refl

no_unmapped : (o : Option ℕ) (other : Option MemFault) → address_or o other ≡ None → o ≡ None
no_unmapped None other e = refl
no_unmapped (Some a) other e = absurd (cc)

write-alike : (s : LineState) (addr width value : ℕ) → modify_refusal s.memory addr width value ≡ None → FaultsAlike s (with_memory_write s addr width value)
unfolding after_store
write-alike s addr width value none access at size =
    write_keeps s.memory addr width value (mapped-all s.memory addr width width (no_unmapped (first_unmapped s.memory addr width) _ none) (omega arith)) access at size

write_or_diagnostic-alike : (o : Option MemFault) (s : LineState) (addr width value : ℕ) → modify_refusal s.memory addr width value ≡ o → IfOk (write_or_diagnostic o s addr width value) (λ answer. FaultsAlike s answer.state)
write_or_diagnostic-alike None s addr width value e = write-alike s addr width value e
write_or_diagnostic-alike (Some (BadAddr bad)) s addr width value e = tt
write_or_diagnostic-alike (Some TooWide) s addr width value e = tt
write_or_diagnostic-alike (Some OutOfMemory) s addr width value e = tt

mm-alike : (addr width value : ℕ) (s : LineState) → IfOk (write_answer addr width value s) (λ answer. FaultsAlike s answer.state)
unfolding write_answer
mm-alike addr width value s = write_or_diagnostic-alike (modify_refusal s.memory addr width value) s addr width value refl

-- Other commands leave memory.

register_set-alike : (s : LineState) (w : RegisterWrite) → IfOk (register_set s w) (λ answer. FaultsAlike s answer.state)
register_set-alike s w =
    let c = with_named (current_context s) w.reg w.value in
    either (λ (r : Result Answer Diagnostic). IfOk r (λ answer. FaultsAlike s answer.state)) (is_zero w.reg) (Err (diagnostic.BadRegister 1)) (Ok (record { output = set_text w.reg w.value; state = with_current s c; outcome = Stay })) tt (alike s (with_current s c) refl)

rm-alike : (words : List (List ℕ)) (s : LineState) → IfOk (rm_answer words s) (λ answer. FaultsAlike s answer.state)
unfolding rm_answer
rm-alike words s = after_any (λ (answer : Answer). FaultsAlike s answer.state) (rm_wanted s words) (register_set s) (λ w. register_set-alike s w)

set-alike : (pair : List ℕ × List ℕ) (s : LineState) → IfOk (set_answer pair s) (λ answer. FaultsAlike s answer.state)
set-alike pair s = after_any (λ (answer : Answer). FaultsAlike s answer.state) (variables_after s.variables pair) _ (λ new. alike s (record s { variables = new }) refl)

step_unless-alike : (o : Option Diagnostic) (s : LineState) → IfOk (step_unless o s) (λ answer. FaultsAlike s answer.state)
step_unless-alike None s = alike s s refl
step_unless-alike (Some why) s = tt

with_pc-alike : (s : LineState) (pc : Option ℕ) → FaultsAlike s (with_pc s pc)
with_pc-alike s None = alike s s refl
with_pc-alike s (Some pc) = alike s (with_pc s (Some pc)) refl

go-alike : (pc : Option ℕ) (entry : ℕ) (s : LineState) → IfOk (go_answer pc entry s) (λ answer. FaultsAlike s answer.state)
unfolding go_answer
go-alike pc entry s =
    either (λ (r : Result Answer Diagnostic). IfOk r (λ answer. FaultsAlike s answer.state)) (eqb s.current entry) (Ok (record { output = []; state = with_pc s pc; outcome = Go })) (Err (diagnostic.EnteredOn entry)) (with_pc-alike s pc) tt

command-alike : (g : Gathering) (c : Command) (words : List (List ℕ)) (v : Values) (s : LineState) → IfOk (command_answer c words v g s) (λ answer. FaultsAlike s answer.state)
unfolding command_answer
command-alike g (command.Show what) words v s = after_any (λ (answer : Answer). FaultsAlike s answer.state) (display_text what (word_at words 0) v g.gathered s) _ (λ text. alike s s refl)
command-alike g command.Mm words v s = mm-alike (address v) _ _ s
command-alike g command.MmWidth words v s = mm-alike (address v) _ _ s
command-alike g command.Rm words v s = rm-alike words s
command-alike g command.Bp words v s = after_any (λ (answer : Answer). FaultsAlike s answer.state) (bp_answer s (address v)) (λ answer. Ok (with_breaks s answer)) (λ answer. alike s (with_breaks s answer).state refl)
command-alike g (command.Change change) words v s = after_any (λ (answer : Answer). FaultsAlike s answer.state) (change_answer s.places change (word_at words 1)) (λ answer. Ok (with_breaks s answer)) (λ answer. alike s (with_breaks s answer).state refl)
command-alike g command.Cpu words v s = after_any (λ (answer : Answer). FaultsAlike s answer.state) (cpu_answer g.gathered (word_at words 1)) (λ answer. Ok (with_processor s answer)) (λ answer. alike s (with_processor s answer).state refl)
command-alike g command.SetOneWord words v s = after_any (λ (answer : Answer). FaultsAlike s answer.state) (assignment_of (word_at words 1)) (λ pair. set_answer pair s) (λ pair. set-alike pair s)
command-alike g command.Set words v s = set-alike (word_at words 1, word_at words 2) s
command-alike g command.Ss words v s = step_unless-alike (ss_refusal g.entry s) s
command-alike g command.Go words v s = go-alike v.first g.entry s

macros-alike : (s : LineState) (r : Result MacroList Diagnostic) → IfOk r (λ m. FaultsAlike s (with_macros s m).state)
macros-alike s (Ok m) = alike s (with_macros s m).state refl
macros-alike s (Err d) = tt

of-lines : (g : Gathering) → IsOfLines g (λ s a. FaultsAlike s a.state)
of-lines g = record {
  printed = λ s text. alike s s refl;
  command = λ c words v s. command-alike g c words v s;
  begun = λ words s. macros-alike s (macros_after_defcmd (macros_of s) words);
  stored = λ line s. macros-alike s (macros_after_line (macros_of s) line);
  filtered = λ s a out same. same;
  followed = λ s first rest same then access at size. then access at size ∙ same access at size;
}

pub line_keeps_faults : (gathered entry : ℕ) (line : List ℕ) (s : LineState) (access : Access) (at size : ℕ) → access_fault (line_said gathered entry line s).state.memory access at size ≡ access_fault s.memory access at size
line_keeps_faults gathered entry line s =
    let g : Gathering = record { gathered = gathered; entry = entry } in
    holds_of_lines g (λ s a. FaultsAlike s a.state) (of-lines g) line s
