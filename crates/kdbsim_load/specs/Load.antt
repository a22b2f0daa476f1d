-- The run of the generated input, and what is told of it.
use Rattle.std.specs.Prelude.{◌≡◌, ℕ, List, [], ◌++◌, length, Ok}
use Rattle.mach_base.specs.declared.limits.TheConstants.{MOST_STEPS}
use Rattle.img_text.specs.Image.{ImageRecord}
use Rattle.img_text.specs.Reading.{image_of}
use Rattle.atom_mach.specs.Script.{checked_script}
use Rattle.atom_mach.specs.Texts.{ending_line}
use Rattle.bus_core.specs.declared.outer.Core.{Core}
use Rattle.bus_core.specs.Core.{machine_of, entries_of, text_of}
use Rattle.bus_core.specs.Origin.{Origin}
use Rattle.bus_calls.specs.declared.bus.CoreBus.{CoreBus}
use Rattle.kdbsim_runs.specs.Lockstep.{IsTicked}
use Rattle.kdbsim_runs.specs.Record.{IsRecord}
use Rattle.gen_load.specs.declared.numbers.TheConstants.{HARTS}
use Rattle.gen_load.specs.Input.{generated}
use Rattle.kdbsim_load.specs.declared.told.LoadTold.{LoadTold}
use Rattle.kdbsim_load.specs.declared.told.TheConstants.{ROUNDS}
use Rattle.kdbsim_load.specs.Counts.{sessions_in, late_in}

-- what is told are the numbers of the core: the steps of its machine, and what its journal counts
pub record AreNumbers (core : Core) (told : LoadTold) : Type 0 where
  pub steps : told.steps ≡ (machine_of core).machine.steps
  pub sessions : told.sessions ≡ sessions_in (entries_of core)
  pub entries : told.entries ≡ length (entries_of core)
  pub late : told.late ≡ late_in (entries_of core)

-- the ending is that of the core's record, whose transcript is the core's with the line of the ending and the steps
abbrev pub IsEnding : Origin → Core → LoadTold → Type 0
IsEnding start core told = IsRecord start (entries_of core) told.ending (text_of core ++ ending_line told.ending told.steps)

-- where a run begins with this image and these lines: no symbols, 4 harts and the highest limit of steps
abbrev pub start_with : ImageRecord → List (List ℕ) → Origin
start_with image lines = record { image = image; symbols = []; lines = lines; harts = HARTS; limit = MOST_STEPS }

-- The run of the input that the number says: the image's text means an image and the script is right, the bus is what just
-- the ticks of the plan make from there, and what is told is the ending and the numbers of that bus.
pub record IsLoad (number : ℕ) (told : LoadTold) : Type 0 where
  pub image : ImageRecord
  pub means : image_of (generated number).image ≡ Ok image
  pub lines : List (List ℕ)
  pub right : checked_script (generated number).script ≡ Ok lines
  pub bus : CoreBus
  pub ticked : IsTicked (start_with image lines) ROUNDS (generated number).plan bus
  pub numbers : AreNumbers bus.core told
  pub ending : IsEnding (start_with image lines) bus.core told
