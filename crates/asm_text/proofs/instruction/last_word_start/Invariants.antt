use Rattle.std.proofs.Common.{◌≤◌, length}
use Rattle.asm_text.proofs.Splits.{IsSplit}
use Rattle.asm_text.proofs.instruction.last_word_start.Given as goal

-- no blank stands after the place so far
abbrev pub invariant-loop-last : goal.invariant-loop-last
invariant-loop-last l = record {
  split : IsSplit l.line l.left;
  within : length l.left ≤ length l.line;
}

abbrev pub decreases-loop-last : goal.decreases-loop-last
decreases-loop-last l = length l.left
