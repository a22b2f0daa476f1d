-- The counts of a core's journal fit 64 bits; the parts of the generated input; the start of its run.
use Rattle.std.proofs.Common.{◌≡◌, ℕ, ◌≤◌, ◌<◌, ◌^◌, false, List, [], length, arith, refl, sym, ap, ◌∙◌, subst}
use Rattle.std.proofs.Math.Logic.{∥∥₁_elim}
use Rattle.std.specs.Coded.{le_prop}
use Rattle.mach_base.specs.Machine.{Symbol}
use Rattle.mach_base.specs.declared.event.Entry.{Entry}
use Rattle.mach_base.specs.declared.limits.TheConstants.{MOST_STEPS}
use Rattle.img_text.specs.Image.{ImageRecord}
use Rattle.deck_core.specs.contract.Told.{IsOpening}
use Rattle.plant_mach.specs.Machine.{PlantedMachine, planted_start}
use Rattle.plant_mach.specs.Entries.{Made}
use Rattle.bus_core.specs.declared.outer.Core.{Core}
use Rattle.bus_core.specs.Core.{machine_of, entries_of, text_of, ComesFrom}
use Rattle.bus_core.specs.Origin.{HasOrigin, start_of}
use Rattle.bus_calls.specs.declared.bus.CoreBus.{CoreBus}
use Rattle.bus_calls.specs.Bus.{told}
use Rattle.kdbsim_runs.specs.Lockstep.{IsFirstBus}
use Rattle.gen_load.specs.declared.numbers.TheConstants.{HARTS, TICKS}
use Rattle.gen_load.specs.Input.{generated, image_text, script_text, plan_to}
use Rattle.kdbsim_load.specs.Counts.{sessions_in, late_in}
use Rattle.kdbsim_load.specs.Load.{start_with}
use Rattle.kdbsim_load.proofs.Late.{late_printed}
use Rattle.kdbsim_load.proofs.Sums.{sessions_few}

late_of : (c : Core) → c.lost ≡ false → HasOrigin (entries_of c) (text_of c) (machine_of c) c.lost → late_in (entries_of c) ≤ length (text_of c)
late_of c kept h = subst (λ (x : Made). late_in (entries_of c) ≤ length x.text) (h.1.now kept) (late_printed (start_of h.0) (entries_of c) h.1.last h.1.legal)

late_most : (c : Core) → c.lost ≡ false → ∥ HasOrigin (entries_of c) (text_of c) (machine_of c) c.lost ∥₁ → late_in (entries_of c) ≤ length (text_of c)
late_most c kept h = ∥∥₁_elim h (hlevel le_prop) (late_of c kept)

-- the sessions fit where the number of entries does, and the late harts where the number of printed bytes does
pub sessions_fit : (es : List Entry) (n most : ℕ) → n ≡ length es → n < most → sessions_in es < most
sessions_fit es n most is fits = let few = sessions_few es in omega arith

pub late_fit : (c : Core) (es : List Entry) (n most : ℕ) → c.lost ≡ false → ∥ HasOrigin (entries_of c) (text_of c) (machine_of c) c.lost ∥₁ → es ≡ entries_of c
    → n ≡ length (text_of c) → n < most → late_in es < most
late_fit c es n most kept from is printed fits =
    let few : late_in (entries_of c) ≤ length (text_of c) = late_most c kept from in
    let same : late_in es ≡ late_in (entries_of c) = ap late_in is in
    omega arith

pub image_is : (number : ℕ) → (generated number).image ≡ image_text
unfolding generated
image_is number = refl

pub script_is : (number : ℕ) → (generated number).script ≡ script_text
unfolding generated
script_is number = refl

-- a start without symbols
pub first_bus : (image : ImageRecord) (symbols : List Symbol) (lines : List (List ℕ)) (bus : CoreBus) → symbols ≡ [] → machine_of bus.core ≡ planted_start image symbols lines HARTS MOST_STEPS
    → entries_of bus.core ≡ [] → IsOpening (told bus) → IsFirstBus (start_with image lines) bus
first_bus image symbols lines bus none machine journal opening = record {
  machine = subst (λ (s : List Symbol). machine_of bus.core ≡ planted_start image s lines HARTS MOST_STEPS) none machine;
  journal = journal;
  opening = opening;
}

pub first_origin : (image : ImageRecord) (symbols : List Symbol) (lines : List (List ℕ)) (c : Core) → symbols ≡ []
    → ComesFrom (record { image = image; symbols = symbols; lines = lines; harts = HARTS; limit = MOST_STEPS }) c → ComesFrom (start_with image lines) c
first_origin image symbols lines c none from =
    subst (λ (s : List Symbol). ComesFrom (record { image = image; symbols = s; lines = lines; harts = HARTS; limit = MOST_STEPS }) c) none from
