-- Runs by equal numbers.
use Rattle.std.proofs.Common.{◌≡◌, ◌≢◌, ◌∙◌, ℕ, false, List, Option, Some, None, refl, sym, ap, subst}
use Rattle.mach_base.specs.declared.event.Ending.{Ending}
use Rattle.plant_mach.specs.Laws.{NeverLegal}
use Rattle.kdbsim_runs.specs.Record.{IsRecord, ending_in, ending_or}
use Rattle.kdbsim_runs.proofs.Records.{standing}
use Rattle.mach_base.specs.Machine.{Symbol}
use Rattle.img_text.specs.Image.{ImageRecord}
use Rattle.bus_core.specs.declared.outer.Core.{Core}
use Rattle.bus_core.specs.Core.{machine_of, entries_of, ComesFrom}
use Rattle.bus_core.specs.Origin.{Origin}
use Rattle.bus_calls.specs.declared.bus.CoreBus.{CoreBus}
use Rattle.kdbsim_runs.specs.Lockstep.{IsTicked}

abbrev start : ImageRecord → List Symbol → List (List ℕ) → ℕ → ℕ → Origin
start image symbols lines harts limit = record { image = image; symbols = symbols; lines = lines; harts = harts; limit = limit }

pub ticked_by : (image : ImageRecord) (symbols : List Symbol) (lines : List (List ℕ)) (h h2 l l2 r r2 : ℕ) (plan : List ℕ) (bus : CoreBus) → h ≡ h2 → l ≡ l2 → r ≡ r2
    → IsTicked (start image symbols lines h l) r plan bus → IsTicked (start image symbols lines h2 l2) r2 plan bus
ticked_by image symbols lines h h2 l l2 r r2 plan bus harts limit rounds t =
    let one : IsTicked (start image symbols lines h2 l) r plan bus = subst (λ x. IsTicked (start image symbols lines x l) r plan bus) harts t in
    let two : IsTicked (start image symbols lines h2 l2) r plan bus = subst (λ x. IsTicked (start image symbols lines h2 x) r plan bus) limit one in
    subst (λ x. IsTicked (start image symbols lines h2 l2) x plan bus) rounds two

pub comes_by : (image : ImageRecord) (symbols : List Symbol) (lines : List (List ℕ)) (h h2 l l2 : ℕ) (core : Core) → h ≡ h2 → l ≡ l2 → ComesFrom (start image symbols lines h l) core → ComesFrom (start image symbols lines h2 l2) core
comes_by image symbols lines h h2 l l2 core harts limit from =
    let one : ComesFrom (start image symbols lines h2 l) core = subst (λ x. ComesFrom (start image symbols lines x l) core) harts from in
    subst (λ x. ComesFrom (start image symbols lines h2 x) core) limit one

some_ending : (o : Option Ending) → o ≢ None → o ≡ Some (ending_or o)
some_ending None some = absurd (some refl)
some_ending (Some ending) some = refl

-- where an ending stands, it is the one among the entries
pub ends_itself : NeverLegal → (o : Origin) (core : Core) (ending : Ending) (text : List ℕ) → ComesFrom o core → core.lost ≡ false → (machine_of core).ending ≢ None → IsRecord o (entries_of core) ending text → ending_in (entries_of core) ≡ Some ending
ends_itself never o core ending text from kept ended recorded =
    let stands : (machine_of core).ending ≡ ending_in (entries_of core) = standing never o core from kept in
    some_ending (ending_in (entries_of core)) (λ none. ended (stands ∙ none)) ∙ ap Some (sym recorded.ended)
