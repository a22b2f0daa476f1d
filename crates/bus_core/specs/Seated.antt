-- What holds of the open session.
use Rattle.std.specs.Prelude.{◌≡◌, ℕ, Bool, false, Option, Some, None}
use Rattle.std.specs.Coded.{le_prop, coded_bool, Coded-set}
use Rattle.mach_base.specs.Masks.{has_bit}
use Rattle.deck_core.specs.declared.plain.notes.Sitting.{Sitting}
use Rattle.deck_core.specs.declared.plain.notes.Stage.{Stage}
use Rattle.deck_core.specs.declared.plain.notes.Stage.TheVariants as stage
use Rattle.plant_mach.specs.Order.{IsSeated}

-- how many instructions are owed beyond the limit of steps
abbrev pub owed_at : Stage → ℕ
owed_at (stage.Pass again) = 1
owed_at other = 0

-- the same, of the open session
abbrev pub owed : Option Sitting → ℕ
owed None = 0
owed (Some s) = owed_at s.stage

-- in a session the current processor isn't late
abbrev pub IsGathered : Option Sitting → ℕ → Type 0
IsGathered None current = Unit {0}
IsGathered (Some s) current = has_bit s.late current ≡ false

-- That the session fits is a fact, so that ghost fields may hold it.

bool_set : IsSet Bool
bool_set = Coded-set coded_bool

-- there is one proof of it
pub IsSeated-prop : (harts : ℕ) (session : Option Sitting) → IsProp (IsSeated harts session)
IsSeated-prop harts None = hlevel (le_prop, bool_set)
IsSeated-prop harts (Some s) = hlevel (le_prop, bool_set)

-- there is one proof of it
pub IsGathered-prop : (session : Option Sitting) (current : ℕ) → IsProp (IsGathered session current)
IsGathered-prop None current = hlevel (le_prop, bool_set)
IsGathered-prop (Some s) current = hlevel (le_prop, bool_set)
