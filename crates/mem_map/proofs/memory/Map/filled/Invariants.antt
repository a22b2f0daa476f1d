use Rattle.std.proofs.Common.{◌≡◌, take}
use Rattle.mem_map.specs.Parts.{parts_of}
use Rattle.mem_map.proofs.memory.Map.filled.Given as goal

abbrev pub invariant-loop-i : goal.invariant-loop-i
invariant-loop-i l = l.pieces.items ≡ parts_of (take l.i l.segments) l.contents
