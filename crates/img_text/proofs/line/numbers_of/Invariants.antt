use Rattle.std.proofs.Common.{◌≡◌, ◌+◌, length}
use Rattle.mach_base.specs.Lines.{words_of}
use Rattle.img_text.specs.Directives.{each_number}
use Rattle.img_text.proofs.Numbers.{prepended}
use Rattle.img_text.proofs.line.numbers_of.Given as goal

-- the numbers so far, and those of the words that are left
abbrev pub invariant-loop-word : goal.invariant-loop-word
invariant-loop-word l = record {
  told : each_number l.largest (words_of l.line) ≡ prepended l.values (each_number l.largest (words_of l.left));
  room : length l.values + length (words_of l.left) ≡ length (words_of l.line);
}

abbrev pub decreases-loop-word : goal.decreases-loop-word
decreases-loop-word l = length l.left
