use Rattle.std.proofs.Common.{◌≡◌}
use Rattle.bus_plant.specs.Planted.{planted_mask}
use Rattle.bus_plant.specs.Saved.{addresses}
use Rattle.bus_plant.proofs.saved.mask_of.Given as goal

-- the mask of the places so far
abbrev pub invariant-loop-k : goal.invariant-loop-k
invariant-loop-k l = l.mask ≡ planted_mask (addresses l.places) l.k
