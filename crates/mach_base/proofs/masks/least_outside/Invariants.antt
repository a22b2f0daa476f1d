use Rattle.std.proofs.Common.{◌≡◌, ◌-◌}
use Rattle.mach_base.specs.Masks.{least_outside}
use Rattle.mach_base.proofs.masks.least_outside.Given as goal

abbrev pub invariant-loop-k : goal.invariant-loop-k
invariant-loop-k l = least_outside (l.harts - l.k) l.k l.mask ≡ least_outside (l.harts - l.from) l.from l.mask
