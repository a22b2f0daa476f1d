use Rattle.std.proofs.Common.{◌≡◌, ◌+◌, drop}
use Rattle.atom_mach.specs.Script.{first_bad_line}
use Rattle.atom_mach.proofs.script.first_bad_line.Given as goal

-- the lines so far are right
abbrev pub invariant-loop-i : goal.invariant-loop-i
invariant-loop-i l = first_bad_line (l.i + 1) (drop l.i l.lines) ≡ first_bad_line 1 l.lines
