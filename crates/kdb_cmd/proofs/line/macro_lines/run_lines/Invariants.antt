use Rattle.std.proofs.Common.{◌≡◌, drop}
use Rattle.kdb_cmd.specs.Desk.{desk_state, IsReady, IsSameDesk}
use Rattle.kdb_cmd.specs.MacroLines.{macro_answer}
use Rattle.kdb_cmd.proofs.Runs.{behind}
use Rattle.kdb_cmd.proofs.line.macro_lines.run_lines.Given as goal

-- what was printed so far, and after it what the lines that are left print and do, is the whole
abbrev pub invariant-loop-line : goal.invariant-loop-line
invariant-loop-line g l = record {
  whole : behind l.out.items (macro_answer (drop l.line-index l.lines) l.desk.gathering (desk_state g.P.Peek.memory l.desk)) ≡ macro_answer l.lines l.initial.desk.gathering (desk_state g.P.Peek.memory l.initial.desk);
  ready : IsReady g.P.Peek.memory l.desk;
  same : IsSameDesk g.P.Peek.rest l.initial.desk l.desk;
}
