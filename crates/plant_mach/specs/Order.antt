-- What holds of the planted machine after every legal list of entries.
use Rattle.std.specs.Prelude.{◌≡◌, ℕ, true, length, Option, Some, None}
use Rattle.mach_base.specs.Machine.{is_text_word}
use Rattle.mem_map.specs.Access.{access_fault}
use Rattle.mem_map.specs.declared.rights.Access.TheVariants.{Fetch}
use Rattle.kdb_cmd.specs.Limits.{WithinLimits as DebuggerLimits}
use Rattle.bus_plant.specs.Planted.{IsPlanted}
use Rattle.deck_core.specs.declared.plain.notes.Sitting.{Sitting}
use Rattle.deck_core.specs.declared.plain.notes.Stage.{Stage}
use Rattle.deck_core.specs.declared.plain.notes.Stage.TheVariants as stage
use Rattle.atom_mach.specs.State.{hart_count}
use Rattle.atom_mach.specs.Modes.{IsSitting}
use Rattle.plant_mach.specs.Machine.{PlantedMachine, memory_in, planted_at, enabled_at, planted_of}

-- the session's master and late harts are the machine's, and the master isn't late
abbrev pub IsSeated : ℕ → Option Sitting → Type 0
IsSeated harts None = Unit {0}
IsSeated harts (Some s) = IsSitting harts s.master s.late

-- at which stages a step word may stand
abbrev pub StepFitsStage : Stage → Option ℕ → Type 0
StepFitsStage stage.Lines step = step ≡ None
StepFitsStage other step = Unit {0}

-- there is no step word without a session, nor while lines are read
abbrev pub StepFits : Option Sitting → Option ℕ → Type 0
StepFits None step = step ≡ None
StepFits (Some s) step = StepFitsStage s.stage step

-- which places may be planted, by their mask: none in a single-step pass and after it
abbrev pub PlacesFitStage : Stage → ℕ → Type 0
PlacesFitStage (stage.Pass again) planted = planted ≡ 0
PlacesFitStage stage.Back planted = planted ≡ 0
PlacesFitStage other planted = Unit {0}

-- a session stands only once one was opened, and has no place planted in a single-step pass and after it
abbrev pub SessionFits : Option Sitting → PlantedMachine → Type 0
SessionFits None p = Unit {0}
SessionFits (Some s) p = (p.machine.opened ≡ true) × PlacesFitStage s.stage (planted_of p)

-- The debugger is within its limits; each word of text can be fetched; the planted words are words of text, and no two are
-- the same; each planted place is enabled at just this address, and without a session each enabled one is planted; the
-- session, the step word and the calls fit the machine.
pub record IsOrderly (p : PlantedMachine) : Type 0 where
  pub limits : DebuggerLimits p.machine.seen
  pub text : (addr : ℕ) → is_text_word p.machine.seen.memory addr ≡ true → access_fault p.machine.seen.memory Fetch addr 4 ≡ None
  pub words : IsPlanted (memory_in p)
  pub enabled : (i addr : ℕ) → planted_at p i ≡ Some addr → enabled_at p i ≡ Some addr
  pub whole : p.session ≡ None → (i addr : ℕ) → enabled_at p i ≡ Some addr → planted_at p i ≡ Some addr
  pub seated : IsSeated (hart_count p.machine) p.session
  pub step : StepFits p.session p.step
  pub session : SessionFits p.session p
  pub calls : length p.calls ≡ hart_count p.machine
