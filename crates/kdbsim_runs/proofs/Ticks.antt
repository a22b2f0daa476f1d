-- Ticks that are made one after the other are those of the whole plan.
use Rattle.std.proofs.Common.{◌≡◌, ℕ, ◌+◌, ◌<◌, List, [], ◌∷◌, length, drop, Option, Some, None, refl, sym, ap, ◌∙◌, subst}
use Rattle.mach_base.specs.declared.event.Hart.{Hart}
use Rattle.deck_core.specs.ticks.Configuration.{Configuration, opening}
use Rattle.deck_core.specs.ticks.Run.{RunsWith}
use Rattle.plan_text.specs.Ticks.{AreBelow}
use Rattle.hart_prog.specs.Plan.{AllBelow, AllStand, WholeRuns, hart_numbers}
use Rattle.hart_prog.specs.declared.prog.Prog.{Prog}
use Rattle.hart_prog.proofs.Plans.{plan_begins, plan_on, plan_ends}
use Rattle.bus_calls.specs.declared.bus.CoreBus.{CoreBus}
use Rattle.bus_calls.specs.Bus.{told}
use Rattle.bus_calls.specs.Calls.{Does}

-- what the ticks that are left make from here, all make from the beginning
abbrev pub TicksLeft : List Hart → List Hart → Option Configuration → CoreBus → Option Configuration → CoreBus → Type 0
TicksLeft all left first begin whole bus =
    (last : Option Configuration) (end : CoreBus) → WholeRuns told Does (hart_numbers left) whole bus last end → WholeRuns told Does (hart_numbers all) first begin last end

pub all_left : (all : List Hart) (whole : Option Configuration) (bus : CoreBus) → TicksLeft all all whole bus whole bus
all_left all whole bus last end runs = runs

pub one_less : (all left rest : List Hart) (h : Hart) (first whole whole2 : Option Configuration) (begin b b2 : CoreBus) (progs progs2 : List Prog) → left ≡ h ∷ rest
    → AllStand whole progs → AllBelow (length progs) left → AllStand whole2 progs2 → length progs2 ≡ length progs
    → WholeRuns told Does (h.0 ∷ []) whole b whole2 b2 → TicksLeft all left first begin whole b → TicksLeft all rest first begin whole2 b2
one_less all left rest h first whole whole2 begin b b2 progs progs2 is stand below stand2 same one so_far last end runs =
    let here : AllBelow (length progs) (h ∷ rest) = subst (AllBelow (length progs)) is below in
    let p = plan_on told Does (h ∷ rest) 0 h whole whole whole2 b b b2 progs progs2 (plan_begins told Does (h ∷ rest) whole b progs stand here) refl stand2 same one in
    so_far last end (subst (λ xs. WholeRuns told Does (hart_numbers xs) whole b last end) (sym is) (p.runs last end runs))

pub below_rest : (n : ℕ) (left rest : List Hart) (h : Hart) → left ≡ h ∷ rest → AllBelow n left → (h.0 < n) × AllBelow n rest
below_rest n left rest h is below = subst (AllBelow n) is below

pub none_left : (all left : List Hart) (first whole : Option Configuration) (begin b : CoreBus) (progs : List Prog) → left ≡ [] → AllStand whole progs → TicksLeft all left first begin whole b → WholeRuns told Does (hart_numbers all) first begin whole b
none_left all left first whole begin b progs is stand so_far =
    so_far whole b (subst (λ xs. WholeRuns told Does (hart_numbers xs) whole b whole b) (sym is)
    (plan_ends told Does [] 0 whole whole b b progs (plan_begins told Does [] whole b progs stand tt) refl))

-- the harts of the plan are there
pub all_below : (n : ℕ) (ticks : List Hart) → AreBelow n ticks → AllBelow n ticks
all_below n [] below = tt
all_below n (h ∷ ticks) below = (below.0, all_below n ticks below.1)

-- a run of the deck that begins so is that of the opening configuration
pub ticked : (plan made : List ℕ) (rounds : ℕ) (whole whole2 : Option Configuration) (first b end bus : CoreBus) → WholeRuns told Does made whole b whole2 end
    → whole ≡ Some (opening rounds (told first)) → b ≡ first → end ≡ bus → made ≡ plan → (last : Configuration) × RunsWith told Does plan (opening rounds (told first)) first last bus
ticked plan made rounds whole whole2 first b end bus runs begins begun ends is =
    let one : WholeRuns told Does made (Some (opening rounds (told first))) b whole2 end = subst (λ w. WholeRuns told Does made w b whole2 end) begins runs in
    let two : RunsWith told Does made (opening rounds (told first)) b one.0 end = one.1.1 in
    let three : RunsWith told Does made (opening rounds (told first)) first one.0 end = subst (λ x. RunsWith told Does made (opening rounds (told first)) x one.0 end) begun two in
    let four : RunsWith told Does made (opening rounds (told first)) first one.0 bus = subst (λ x. RunsWith told Does made (opening rounds (told first)) first one.0 x) ends three in
    (one.0, subst (λ p. RunsWith told Does p (opening rounds (told first)) first one.0 bus) is four)
