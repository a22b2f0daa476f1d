use Rattle.std.proofs.Common.{◌≡◌, map, take}
use Rattle.img_text.proofs.start.boot_memory.Given as goal

-- the bytes of the segments so far
abbrev pub invariant-loop-i : goal.invariant-loop-i
invariant-loop-i l = l.contents.items ≡ map (λ p. p.bytes) (take l.i l.image.parts)
