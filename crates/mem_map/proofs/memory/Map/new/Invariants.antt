use Rattle.std.proofs.Common.{◌≡◌, map, take}
use Rattle.mem_map.specs.Parts.{zero_part}
use Rattle.mem_map.proofs.memory.Map.new.Given as goal

abbrev pub invariant-loop-segment : goal.invariant-loop-segment
invariant-loop-segment l = l.pieces.items ≡ map zero_part (take l.segment-index l.segments)
