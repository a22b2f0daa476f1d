use Rattle.std.proofs.Common.{◌≡◌}
use Rattle.plant_mach.specs.Machine.{mask_where}
use Rattle.plant_mach.specs.Entries.{faults}
use Rattle.bus_core.specs.Core.{machine_of}
use Rattle.bus_calls.proofs.bus.CoreBus.faults.Given as goal

-- the mask of the harts so far whose instruction faults
abbrev pub invariant-loop-hart : goal.invariant-loop-hart
invariant-loop-hart l = l.mask ≡ mask_where (faults (machine_of l.self.core)) l.hart
