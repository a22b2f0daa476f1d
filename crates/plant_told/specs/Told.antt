-- What the planted machine tells the protocol of itself.
use Rattle.std.specs.Prelude.{ℕ, Bool, false, Option, Some, None, is_some, if◌then◌else◌}
use Rattle.mach_base.specs.Machine.{Machine}
use Rattle.hart_step.specs.declared.control.After.{After}
use Rattle.hart_step.specs.declared.control.After.TheVariants.{At, Nowhere}
use Rattle.deck_core.specs.declared.plain.notes.Sitting.{Sitting}
use Rattle.deck_core.specs.contract.Told.{Told}
use Rattle.atom_mach.specs.State.{hart_count}
use Rattle.atom_mach.specs.Traps.{trap, next_pc}
use Rattle.plant_mach.specs.Machine.{PlantedMachine, mask_where, planted_of, enabled_of, held_of}
use Rattle.plant_mach.specs.Entries.{faults, step_address}

-- The machine, and what a bus counts besides: how many calls were sent, whether a step word was planted since the last
-- line, and whether its session was released after the run's end.
pub record Counted : Type 0 where
  pub machine : PlantedMachine
  pub sends : ℕ
  pub stepped : Bool
  pub released : Bool

-- the mask of the harts that have a trap
unfoldable pub traps_of : Machine → ℕ
traps_of s = mask_where (λ h. is_some (trap s h)) (hart_count s)

-- the mask of the harts whose instruction faults
unfoldable pub faults_of : PlantedMachine → ℕ
faults_of p = mask_where (faults p) (hart_count p.machine)

-- the address where a hart goes on, if it goes on anywhere
abbrev pub address_of : After → Option ℕ
address_of (At addr) = Some addr
address_of Nowhere = None

-- the next address of the session's master; none without a session
abbrev pub next_in : Option Sitting → Machine → Option ℕ
next_in None s = None
next_in (Some sitting) s = address_of (next_pc s sitting.master.0)

-- whether that is a word of text other than the master's
abbrev pub plantable_in : Option Sitting → Machine → Bool
plantable_in None s = false
plantable_in (Some sitting) s = is_some (step_address s sitting.master.0)

-- the mask of the harts that are held: none once the session was released
abbrev pub mask_of : Bool → PlantedMachine → ℕ
mask_of released p = if released then 0 else held_of p

-- What is told.
unfoldable pub told_of : Counted → Told
told_of c = record {
  harts = hart_count c.machine.machine;
  mask = mask_of c.released c.machine;
  planted = planted_of c.machine;
  enabled = enabled_of c.machine;
  step = c.machine.step;
  session = c.machine.session;
  lines = c.machine.machine.lines_read;
  sends = c.sends;
  stepped = c.stepped;
  over = is_some c.machine.ending;
  traps = traps_of c.machine.machine;
  faults = faults_of c.machine;
  next = next_in c.machine.session c.machine.machine;
  plantable = plantable_in c.machine.session c.machine.machine;
}
