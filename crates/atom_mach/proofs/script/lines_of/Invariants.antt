use Rattle.std.proofs.Common.{◌≡◌, ◌++◌, length}
use Rattle.mach_base.specs.Lines.{lines_of}
use Rattle.atom_mach.proofs.script.lines_of.Given as goal

-- the lines so far and those of what is left
abbrev pub invariant-loop-line : goal.invariant-loop-line
invariant-loop-line l = l.lines.items ++ lines_of l.left ≡ lines_of l.text

abbrev pub decreases-loop-line : goal.decreases-loop-line
decreases-loop-line l = length l.left
