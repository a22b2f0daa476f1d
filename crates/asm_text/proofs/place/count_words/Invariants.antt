use Rattle.std.proofs.Common.{◌≡◌, ◌≤◌, ◌+◌, length}
use Rattle.mach_base.specs.Lines.{words_of}
use Rattle.asm_text.proofs.place.count_words.Given as goal

-- the words so far and those that are left
abbrev pub invariant-loop-rest : goal.invariant-loop-rest
invariant-loop-rest l = record {
  told : l.count + length (words_of l.left) ≡ length (words_of l.line);
  in_range : l.count + length l.left ≤ length l.line;
}

abbrev pub decreases-loop-rest : goal.decreases-loop-rest
decreases-loop-rest l = length l.left
