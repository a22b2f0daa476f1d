-- Runs of ticks, and the ticks that they are.
use Rattle.std.specs.Prelude.{◌≡◌, ℕ, zero, suc, ◌<◌, ◌≤◌, List, [], ◌∷◌, ◌++◌, length}
use Rattle.std.specs.List.{AllByRecursion}
use Rattle.mach_base.specs.declared.event.Hart.{Hart}
use Rattle.mach_base.specs.declared.limits.TheConstants.{MOST_TICKS}

-- a list of harts, and how many times it is gone through
pub record Run : Type 0 where
  pub harts : List Hart
  pub times : ℕ

-- the list, so many times
unfoldable pub repeated : ℕ → List Hart → List Hart
repeated zero harts = []
repeated (suc times) harts = harts ++ repeated times harts

-- The ticks of runs: those of the first, then those of the others.
unfoldable pub ticks_of : List Run → List Hart
ticks_of [] = []
ticks_of (run ∷ runs) = repeated run.times run.harts ++ ticks_of runs

-- each tick is of a hart below this number
abbrev pub AreBelow : ℕ → List Hart → Type 0
AreBelow harts ticks = AllByRecursion (λ hart. hart.0 < harts) ticks

-- the runs have so many ticks, and they aren't too many
abbrev pub IsCount : List Run → ℕ → Type 0
IsCount runs count = (count ≡ length (ticks_of runs)) × (count ≤ MOST_TICKS)
