-- How many ticks there are.
use Rattle.std.proofs.Common.{◌≡◌, ℕ, zero, suc, ◌+◌, ◌-◌, ◌*◌, ◌^◌, ◌<◌, ◌≤◌, List, ◌∷◌, drop, get_or, length, sym, ap, ◌∙◌, arith}
use Rattle.std.proofs.lemmas.List.{length-append, drop_all, drop_more}
use Rattle.mach_base.specs.declared.event.Hart.{Hart}
use Rattle.plan_text.specs.Ticks.{Run, repeated, ticks_of}
use Rattle.plan_text.specs.Reading.{told}

-- a list, so many times, has so many times its length
pub length-repeated : (times : ℕ) (harts : List Hart) → length (repeated times harts) ≡ times * length harts
unfolding repeated
length-repeated zero harts = omega arith
length-repeated (suc times) harts =
    length-append harts (repeated times harts) ∙ ap (λ n. length harts + n) (length-repeated times harts) ∙ (omega arith)

-- the ticks of a run and of the runs after it
pub length-ticks : (run : Run) (runs : List Run) → length (ticks_of (run ∷ runs)) ≡ run.times * length run.harts + length (ticks_of runs)
unfolding ticks_of
length-ticks run runs =
    length-append (repeated run.times run.harts) (ticks_of runs) ∙ ap (λ n. n + length (ticks_of runs)) (length-repeated run.times run.harts)

-- sums as 64 bits tell them
pub told-add : (a b c : ℕ) → told (told (a + told b) + c) ≡ told (a + (b + c))
told-add a b c = omega arith

-- a run more
pub run_more : (count idx times harts total : ℕ) (runs : List Run) (run : Run) → idx < length runs → run ≡ get_or runs idx run → times ≡ run.times → harts ≡ length run.harts → told (count + length (ticks_of (drop idx runs))) ≡ total → told (told (count + told (times * harts)) + length (ticks_of (drop (idx + 1) runs))) ≡ total
run_more count idx times harts total runs run within found same many before =
    let rest = drop (idx + 1) runs in
    let first = drop_more runs idx run within ∙ ap (λ (r : Run). r ∷ rest) (sym found) in
    told-add count (times * harts) (length (ticks_of rest))
    ∙ ap (λ n. told (count + (n + length (ticks_of rest)))) (ap (λ t. t * harts) same ∙ ap (λ h. run.times * h) many)
    ∙ ap (λ n. told (count + n)) (sym (length-ticks run rest))
    ∙ ap (λ rs. told (count + length (ticks_of rs))) (sym first)
    ∙ before

-- no run is left
pub no_more : (count idx total : ℕ) (runs : List Run) → length runs ≤ idx → count ≤ 2 ^ 64 - 1 → told (count + length (ticks_of (drop idx runs))) ≡ total → count ≡ total
unfolding ticks_of
no_more count idx total runs over few is =
    let none : told (count + 0) ≡ total = ap (λ rs. told (count + length (ticks_of rs))) (sym (drop_all idx runs over)) ∙ is in
    omega (arith, few, none)
