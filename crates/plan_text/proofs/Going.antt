-- The ticks that are left, where the present time through the harts is over.
use Rattle.std.proofs.Common.{◌≡◌, ℕ, zero, suc, ◌-◌, ◌<◌, ◌≤◌, List, [], ◌∷◌, ◌++◌, drop, length, refl, sym, arith, append_assoc}
use Rattle.std.proofs.lemmas.List.{drop_all}
use Rattle.mach_base.specs.declared.event.Hart.{Hart}
use Rattle.plan_text.specs.Ticks.{Run, repeated, ticks_of}

-- once more
pub once_more : (harts : List Hart) (done times : ℕ) (rest : List Hart) → length harts ≤ done → 0 < times → drop 0 harts ++ (repeated (times - 1) harts ++ rest) ≡ drop done harts ++ (repeated times harts ++ rest)
unfolding repeated
once_more harts done zero rest over some = absurd (omega (arith, some))
once_more harts done (suc times) rest over some =
    let less : suc times - 1 ≡ times = omega arith in
    rw (less, drop_all done harts over) (sym (append_assoc harts (repeated times harts) rest))

-- the next run
pub next_run : (before : List Hart) (done times : ℕ) (runs rest : List Run) (first : Run) (harts : List Hart) (count again : ℕ) → length before ≤ done → times ≡ 0 → runs ≡ first ∷ rest → harts ≡ first.harts → length harts ≤ count → again ≡ first.times → drop count harts ++ (repeated again harts ++ ticks_of rest) ≡ drop done before ++ (repeated times before ++ ticks_of runs)
unfolding repeated ticks_of
next_run before done times runs rest first harts count again over none split same full is =
    rw (drop_all done before over, drop_all count harts full, none, split, same, is) refl

-- no run
pub no_run : (before : List Hart) (done times : ℕ) (runs : List Run) → length before ≤ done → times ≡ 0 → length runs ≡ 0 → drop done before ++ (repeated times before ++ ticks_of runs) ≡ []
unfolding repeated ticks_of
no_run before done times [] over none empty = rw (drop_all done before over, none) refl
no_run before done times (run ∷ runs) over none empty = absurd (omega (arith, empty))
