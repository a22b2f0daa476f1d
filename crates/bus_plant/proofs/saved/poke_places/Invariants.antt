use Rattle.std.proofs.Common.{◌≡◌, ◌++◌, map, take, drop}
use Rattle.bus_plant.specs.Saved.{after_poke}
use Rattle.bus_plant.proofs.saved.poke_places.Given as goal

-- the places so far are done, and the others are as they were
abbrev pub invariant-loop-place : goal.invariant-loop-place
invariant-loop-place l = l.places ≡ map (after_poke l.addr l.byte) (take l.place-index l.initial.places) ++ drop l.place-index l.initial.places
