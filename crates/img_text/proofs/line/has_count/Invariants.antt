use Rattle.std.proofs.Common.{◌≡◌, ◌≤◌, ◌+◌, length}
use Rattle.mach_base.specs.Lines.{words_of}
use Rattle.img_text.proofs.line.has_count.Given as goal

-- the words so far and those that are left
abbrev pub invariant-loop-rest : goal.invariant-loop-rest
invariant-loop-rest l = record {
  told : l.count + length (words_of l.left) ≡ length (words_of l.line);
  in_range : l.count ≤ l.most;
}

abbrev pub decreases-loop-rest : goal.decreases-loop-rest
decreases-loop-rest l = length l.left
