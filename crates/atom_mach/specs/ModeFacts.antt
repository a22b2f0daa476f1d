-- What modes say, by cases, is a fact: that ghost fields may hold it.
use Rattle.std.specs.Prelude.{ℕ, Bool}
use Rattle.std.specs.Coded.{le_prop, coded_bool, Coded-set}
use Rattle.atom_mach.specs.declared.step.Mode.{Mode}
use Rattle.atom_mach.specs.declared.step.Mode.TheVariants.{Free, Hold, Pass, Back, Leave, Over}
use Rattle.atom_mach.specs.Modes.{Fits, IsGathered}

bool_set : IsSet Bool
bool_set = Coded-set coded_bool

-- there is one proof of it
pub Fits-prop : (harts : ℕ) (mode : Mode) → IsProp (Fits harts mode)
Fits-prop harts Free = hlevel (le_prop, bool_set)
Fits-prop harts (Hold m late) = hlevel (le_prop, bool_set)
Fits-prop harts (Pass m late again) = hlevel (le_prop, bool_set)
Fits-prop harts (Back m late) = hlevel (le_prop, bool_set)
Fits-prop harts (Leave m late) = hlevel (le_prop, bool_set)
Fits-prop harts (Over ending) = hlevel (le_prop, bool_set)

-- there is one proof of it
pub IsGathered-prop : (mode : Mode) (current : ℕ) → IsProp (IsGathered mode current)
IsGathered-prop Free current = hlevel (le_prop, bool_set)
IsGathered-prop (Hold m late) current = hlevel (le_prop, bool_set)
IsGathered-prop (Pass m late again) current = hlevel (le_prop, bool_set)
IsGathered-prop (Back m late) current = hlevel (le_prop, bool_set)
IsGathered-prop (Leave m late) current = hlevel (le_prop, bool_set)
IsGathered-prop (Over ending) current = hlevel (le_prop, bool_set)
