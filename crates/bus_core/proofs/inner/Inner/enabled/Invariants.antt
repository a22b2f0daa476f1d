use Rattle.std.proofs.Common.{◌≡◌}
use Rattle.plant_mach.specs.Machine.{enabled_mask}
use Rattle.bus_core.proofs.inner.Inner.enabled.Given as goal

-- the mask of the enabled places so far
abbrev pub invariant-loop-place : goal.invariant-loop-place
invariant-loop-place l = l.mask ≡ enabled_mask l.self.kdb.breaks l.place
