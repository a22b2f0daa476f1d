-- Counts over the entries of a list.
use Rattle.std.proofs.Common.{◌≡◌, ℕ, ◌+◌, ◌≤◌, ◌<◌, List, [], ◌∷◌, ◌++◌, length, arith, refl, sym, ap, ◌∙◌, subst}
use Rattle.mach_base.specs.declared.event.Entry.{Entry}
use Rattle.mach_base.specs.declared.event.Entry.TheVariants.{Step, Intr, Send, Take, Open, Pull, Line, Plant, PlantStep, PullStep, Close, Off}
use Rattle.kdbsim_load.specs.Counts.{opens, late_at, sessions_in, late_in}

-- what was counted so far, with what the entries that are left count, is what all count
pub record Counting (all left : List Entry) (sessions late : ℕ) : Type 0 where
  pub opened : sessions + sessions_in left ≡ sessions_in all
  pub behind : late + late_in left ≡ late_in all

pub at_first : (all : List Entry) → Counting all all 0 0
at_first all = record { opened = omega arith; behind = omega arith }

pub fits_sessions : (all left rest : List Entry) (e : Entry) (sessions late most : ℕ) → Counting all left sessions late → left ≡ e ∷ rest → sessions_in all < most → sessions + opens e < most
fits_sessions all left rest e sessions late most so_far is few =
    let here : sessions + (opens e + sessions_in rest) ≡ sessions_in all = ap (λ es. sessions + sessions_in es) (sym is) ∙ so_far.opened in
    omega arith

pub fits_late : (all left rest : List Entry) (e : Entry) (sessions late most : ℕ) → Counting all left sessions late → left ≡ e ∷ rest → late_in all < most → late + late_at e < most
fits_late all left rest e sessions late most so_far is few =
    let here : late + (late_at e + late_in rest) ≡ late_in all = ap (λ es. late + late_in es) (sym is) ∙ so_far.behind in
    omega arith

pub counted_on : (all left rest : List Entry) (e : Entry) (sessions late sessions2 late2 : ℕ) → Counting all left sessions late → left ≡ e ∷ rest
    → sessions2 ≡ sessions + opens e → late2 ≡ late + late_at e → Counting all rest sessions2 late2
counted_on all left rest e sessions late sessions2 late2 so_far is more_sessions more_late =
    let one : sessions + (opens e + sessions_in rest) ≡ sessions_in all = ap (λ es. sessions + sessions_in es) (sym is) ∙ so_far.opened in
    let two : late + (late_at e + late_in rest) ≡ late_in all = ap (λ es. late + late_in es) (sym is) ∙ so_far.behind in
    record { opened = omega arith; behind = omega arith }

pub at_last : (all left : List Entry) (sessions late : ℕ) → Counting all left sessions late → left ≡ [] → (sessions ≡ sessions_in all) × (late ≡ late_in all)
at_last all left sessions late so_far is =
    let one : sessions + 0 ≡ sessions_in all = ap (λ es. sessions + sessions_in es) (sym is) ∙ so_far.opened in
    let two : late + 0 ≡ late_in all = ap (λ es. late + late_in es) (sym is) ∙ so_far.behind in
    (omega arith, omega arith)

-- an entry opens one session at most
opens_few : (e : Entry) → opens e ≤ 1
opens_few (Open h late) = omega arith
opens_few (Step h) = omega arith
opens_few (Intr h) = omega arith
opens_few (Send h) = omega arith
opens_few (Take h) = omega arith
opens_few (Pull i) = omega arith
opens_few (Line h) = omega arith
opens_few (Plant i) = omega arith
opens_few (PlantStep a) = omega arith
opens_few PullStep = omega arith
opens_few (Close h) = omega arith
opens_few (Off ending) = omega arith

pub sessions_few : (es : List Entry) → sessions_in es ≤ length es
sessions_few [] = omega arith
sessions_few (e ∷ es) =
    let one = opens_few e in
    let rest = sessions_few es in
    omega arith
