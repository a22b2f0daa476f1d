-- The core as a bus: what it tells.
use Rattle.std.specs.Prelude.{◌||◌, Bool, true, false, Option, Some, None, is_some, if◌then◌else◌}
use Rattle.mach_base.specs.declared.event.Ending.{Ending}
use Rattle.deck_core.specs.contract.Told.{Told}
use Rattle.atom_mach.specs.State.{hart_count}
use Rattle.plant_told.specs.Told.{Counted, told_of}
use Rattle.bus_core.specs.Core as core
use Rattle.bus_calls.specs.declared.bus.CoreBus.{CoreBus}
use Rattle.bus_calls.specs.Running.{counted_with}

-- the machine with the bus's counts
abbrev pub counted_of : CoreBus → Counted
counted_of b = counted_with b.core b.sends b.stepped b.released

-- the ending that stands, if any; none once the core is lost
abbrev pub ending_of : CoreBus → Option Ending
ending_of b = if b.core.lost then None else (core.machine_of b.core).ending

-- whether an ending stands, or a line ran out of memory: no entry is made then
abbrev pub is_over : CoreBus → Bool
is_over b = b.core.lost || is_some (core.machine_of b.core).ending

-- What a lost core tells: the numbers of harts and of calls sent, and the mask and the number of lines that stood when the
-- lost line began; an ending counts as standing, and there is nothing else.
abbrev pub told_lost : CoreBus → Told
told_lost b = record {
  harts = hart_count (core.machine_of b.core).machine;
  mask = b.stood.mask;
  planted = 0;
  enabled = 0;
  step = None;
  session = None;
  lines = b.stood.lines;
  sends = b.sends;
  stepped = false;
  over = true;
  traps = 0;
  faults = 0;
  next = None;
  plantable = false;
}

-- What the bus tells.
unfoldable pub told : CoreBus → Told
told b = if b.core.lost then told_lost b else told_of (counted_of b)
