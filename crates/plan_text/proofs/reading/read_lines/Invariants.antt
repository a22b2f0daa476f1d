use Rattle.std.proofs.Common.{◌≡◌, ◌+◌, ◌≤◌, length}
use Rattle.mach_base.specs.Lines.{lines_of}
use Rattle.plan_text.specs.Reading.{read_lines}
use Rattle.mach_base.proofs.LineByLine.{prepended}
use Rattle.plan_text.proofs.reading.read_lines.Given as goal

-- the runs so far, and those of the lines that are left
abbrev pub invariant-loop-line : goal.invariant-loop-line
invariant-loop-line l = record {
  told : read_lines 2 l.harts (lines_of l.text) ≡ prepended l.runs.items (read_lines l.number l.harts (lines_of l.left));
  in_range : l.number + length l.left ≤ length l.text + 2;
}

abbrev pub decreases-loop-line : goal.decreases-loop-line
decreases-loop-line l = length l.left
