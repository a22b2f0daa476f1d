-- Where a journal stops being legal.
use Rattle.std.specs.Prelude.{◌≡◌, ℕ, List, ◌∷◌, ◌++◌, length, Some, None}
use Rattle.mach_base.specs.declared.event.Entry.{Entry}
use Rattle.plant_mach.specs.Entries.{Made, makes, made_by}
use Rattle.bus_core.specs.Origin.{Origin, start_of}
use Rattle.kdbsim_runs.specs.declared.replays.ReplayFault.{ReplayFault}
use Rattle.kdbsim_runs.specs.declared.replays.ReplayFault.TheVariants.{BadStep, OutOfMemory}

-- the entry of this index, from 0, is the first that isn't legal after those before it
pub record IsBadStep (start : Origin) (entries : List Entry) (index : ℕ) : Type 0 where
  pub before : List Entry
  pub entry : Entry
  pub after : List Entry
  pub split : entries ≡ before ++ entry ∷ after
  pub place : index ≡ length before
  pub last : Made
  pub legal : made_by (start_of start) before ≡ Some last
  pub wrong : makes last.next entry ≡ None

-- why a journal isn't replayed; out of memory says nothing
abbrev pub Refuses : Origin → List Entry → ReplayFault → Type 0
Refuses start entries (BadStep index) = IsBadStep start entries index
Refuses start entries OutOfMemory = Unit {0}
