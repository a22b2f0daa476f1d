use Rattle.std.proofs.Common.{◌≡◌, drop}
use Rattle.bus_plant.specs.Saved.{saved_word}
use Rattle.bus_plant.proofs.saved.saved_among.Given as goal

-- no word of the address is among the places so far
abbrev pub invariant-loop-place : goal.invariant-loop-place
invariant-loop-place l = saved_word l.places l.addr ≡ saved_word (drop l.place-index l.places) l.addr
