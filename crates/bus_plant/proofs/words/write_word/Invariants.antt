use Rattle.std.proofs.Common.{◌≡◌}
use Rattle.mem_map.specs.Access.{after_store}
use Rattle.mem_map.specs.Pages.{KeepsUnmarked}
use Rattle.bus_plant.proofs.words.write_word.Given as goal

-- the lowest bytes are written
abbrev pub invariant-loop-place : goal.invariant-loop-place
invariant-loop-place l = (l.map.memory ≡ after_store l.fn.map.memory l.addr l.place l.word) × KeepsUnmarked l.fn.map l.map
