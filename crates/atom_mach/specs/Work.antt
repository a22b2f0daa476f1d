-- How much a machine with one hart can still do: each turn leaves less, so no run of one goes on for ever.
use Rattle.std.specs.Prelude.{ℕ, ◌+◌, ◌-◌, ◌*◌, length}
use Rattle.atom_mach.specs.declared.step.Mode.{Mode}
use Rattle.atom_mach.specs.declared.step.Mode.TheVariants.{Free, Hold, Pass, Back, Leave, Over}
use Rattle.atom_mach.specs.State.{State}

-- the part of the mode
abbrev pub weight : Mode → ℕ
weight Free = 1
weight (Hold m late) = 1
weight (Pass m late again) = 2
weight (Back m late) = 1
weight (Leave m late) = 1
weight (Over ending) = 0

-- the steps below the limit, three for each unread line, and a little for the mode
abbrev pub work_left : State → ℕ
work_left s = (s.machine.limit - s.machine.steps) + 3 * length s.machine.unread + weight s.mode
