use Rattle.std.proofs.Common.{◌≡◌, drop}
use Rattle.mach_base.specs.Lines.{words_of}
use Rattle.mach_base.proofs.lines.blanks_before.Given as goal

-- the blanks so far are no part of a word
abbrev pub invariant-loop-i : goal.invariant-loop-i
invariant-loop-i l = words_of l.line ≡ words_of (drop l.i l.line)
