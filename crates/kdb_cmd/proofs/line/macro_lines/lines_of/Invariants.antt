use Rattle.std.proofs.Common.{◌≡◌, ◌-◌, ◌≤◌, length, take, vec_len}
use Rattle.std.specs.Prelude.{slice_get}
use Rattle.kdb_cmd.specs.MacroLines.{lines_in}
use Rattle.kdb_cmd.proofs.line.macro_lines.lines_of.Given as goal

-- the lines so far
abbrev pub invariant-loop-line : goal.invariant-loop-line
invariant-loop-line l = record {
  so_far : l.lines.items ≡ take l.place (lines_in (slice_get l.macros.macros l.number));
  within : l.place ≤ length (lines_in (slice_get l.macros.macros l.number));
  counted : l.place ≡ vec_len l.lines;
}

abbrev pub decreases-loop-line : goal.decreases-loop-line
decreases-loop-line l = length (lines_in (slice_get l.macros.macros l.number)) - l.place
