use Rattle.std.proofs.Common.{◌≡◌, ◌++◌, drop}
use Rattle.img_text.specs.Writing.{numbers_text}
use Rattle.img_text.proofs.writing.push_directive.Given as goal

-- the numbers so far, and those that are left
abbrev pub invariant-loop-number : goal.invariant-loop-number
invariant-loop-number l = l.out.items ++ numbers_text (drop l.number-index l.numbers) ≡ (l.fn.out.items ++ l.name) ++ numbers_text l.numbers
