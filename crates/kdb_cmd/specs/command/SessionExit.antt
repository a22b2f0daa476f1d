-- The commands that leave the session.
use Rattle.std.specs.Prelude.{ℕ, ◌==◌, not, [], Option, Some, None, Result, Ok, Err, if◌then◌else◌}
use Rattle.mach_base.specs.Machine.{LineState}
use Rattle.kdb_table.specs.declared.diagnostics.Diagnostic.{Diagnostic}
use Rattle.kdb_table.specs.declared.diagnostics.Diagnostic.TheVariants.{EnteredOn, IsHalted}
use Rattle.kdb_cmd.specs.declared.outcomes.Outcome.TheVariants.{Go, Step}
use Rattle.kdb_view.specs.State.{current_context}
use Rattle.kdb_cmd.specs.Answer.{Answer, with_current}

-- the state in which the current processor has this pc, if one is given
abbrev pub with_pc : LineState → Option ℕ → LineState
with_pc s None = s
with_pc s (Some pc) = with_current s (record (current_context s) { pc = pc })

-- `go [E]`: the session is left from the processor that entered alone
unfoldable pub go_answer : Option ℕ → ℕ → LineState → Result Answer Diagnostic
go_answer pc entry s =
    if s.current == entry then Ok (record { output = []; state = with_pc s pc; outcome = Go }) else Err (EnteredOn entry)

-- why `ss` is refused: the processor isn't the one that entered, or is halted
unfoldable pub ss_refusal : ℕ → LineState → Option Diagnostic
ss_refusal entry s =
    if not (s.current == entry) then Some (EnteredOn entry)
    else if (current_context s).halted then Some (IsHalted s.current)
    else None

-- the session is left for one instruction, unless that is refused
abbrev pub step_unless : Option Diagnostic → LineState → Result Answer Diagnostic
step_unless None s = Ok (record { output = []; state = s; outcome = Step })
step_unless (Some why) s = Err why

-- `ss`: the session is left for one instruction
abbrev pub ss_answer : ℕ → LineState → Result Answer Diagnostic
ss_answer entry s = step_unless (ss_refusal entry s) s
