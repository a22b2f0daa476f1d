use Rattle.std.proofs.Common.{◌≡◌, ◌++◌, drop}
use Rattle.img_text.specs.Writing.{parts_text}
use Rattle.img_text.proofs.writing.push_parts.Given as goal

-- the segments so far, and those that are left
abbrev pub invariant-loop-i : goal.invariant-loop-i
invariant-loop-i l = l.out.items ++ parts_text (drop l.i l.image.parts) ≡ l.fn.out.items ++ parts_text l.image.parts
