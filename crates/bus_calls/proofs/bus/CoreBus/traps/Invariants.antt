use Rattle.std.proofs.Common.{◌≡◌, is_some}
use Rattle.atom_mach.specs.Traps.{trap}
use Rattle.plant_mach.specs.Machine.{mask_where}
use Rattle.bus_core.specs.Core.{machine_of}
use Rattle.bus_calls.proofs.bus.CoreBus.traps.Given as goal

-- the mask of the harts so far that have a trap
abbrev pub invariant-loop-hart : goal.invariant-loop-hart
invariant-loop-hart l = l.mask ≡ mask_where (λ h. is_some (trap (machine_of l.self.core).machine h)) l.hart
