-- The harts of a plan of numbers.
use Rattle.std.proofs.Common.{◌≡◌, ℕ, ◌+◌, ◌<◌, List, [], ◌∷◌, ◌++◌, length, take, get_or, refl, sym, ap, ◌∙◌, subst}
use Rattle.std.proofs.lemmas.List.{take_more}
use Rattle.mach_base.specs.declared.event.Hart.{Hart}
use Rattle.hart_prog.specs.Plan.{AllBelow, hart_numbers}
use Rattle.gen_load.specs.Input.{AreBelow}

numbers-append : (xs ys : List Hart) → hart_numbers (xs ++ ys) ≡ hart_numbers xs ++ hart_numbers ys
numbers-append [] ys = refl
numbers-append (x ∷ xs) ys = ap (λ (ns : List ℕ). x.0 ∷ ns) (numbers-append xs ys)

-- one hart more
pub harts_on : (plan : List ℕ) (index : ℕ) (harts now : List Hart) (h : Hart) → hart_numbers harts ≡ take index plan → now ≡ harts ++ h ∷ [] → h.0 ≡ get_or plan index 0 → index < length plan
    → hart_numbers now ≡ take (index + 1) plan
harts_on plan index harts now h so_far more here lt =
    ap hart_numbers more ∙ numbers-append harts (h ∷ []) ∙ ap (λ (ns : List ℕ). ns ++ h.0 ∷ []) so_far ∙ ap (λ (n : ℕ). take index plan ++ n ∷ []) here ∙ sym (take_more plan index 0 lt)

all_below : (n : ℕ) (harts : List Hart) → AreBelow n (hart_numbers harts) → AllBelow n harts
all_below n [] below = tt
all_below n (h ∷ harts) below = (below.0, all_below n harts below.1)

-- the harts of such a plan are there
pub plan_below : (n : ℕ) (harts : List Hart) (plan : List ℕ) → hart_numbers harts ≡ plan → AreBelow n plan → AllBelow n harts
plan_below n harts plan is below = all_below n harts (subst (AreBelow n) (sym is) below)
