-- Each tick of a plan is of a hart that there is.
use Rattle.std.proofs.Common.{ℕ, zero, suc, List, [], ◌∷◌, ◌++◌}
use Rattle.std.specs.List.{AllByRecursion}
use Rattle.mach_base.specs.declared.event.Hart.{Hart}
use Rattle.plan_text.specs.Ticks.{AreBelow, Run, repeated, ticks_of}

pub both_below : (n : ℕ) (xs ys : List Hart) → AreBelow n xs → AreBelow n ys → AreBelow n (xs ++ ys)
both_below n [] ys all more = more
both_below n (x ∷ xs) ys all more = (all.0, both_below n xs ys all.1 more)

pub repeated_below : (n times : ℕ) (harts : List Hart) → AreBelow n harts → AreBelow n (repeated times harts)
unfolding repeated
repeated_below n zero harts all = tt
repeated_below n (suc times) harts all = both_below n harts (repeated times harts) all (repeated_below n times harts all)

-- the harts of each run are below the number
abbrev pub RunsBelow : ℕ → List Run → Type 0
RunsBelow n runs = AllByRecursion (λ run. AreBelow n run.harts) runs

pub ticks_below : (n : ℕ) (runs : List Run) → RunsBelow n runs → AreBelow n (ticks_of runs)
unfolding ticks_of
ticks_below n [] all = tt
ticks_below n (run ∷ runs) all = both_below n (repeated run.times run.harts) (ticks_of runs) (repeated_below n run.times run.harts all.0) (ticks_below n runs all.1)
