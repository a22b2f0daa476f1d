-- A legal entry has bytes in a packed list.
use Rattle.std.proofs.Common.{◌≡◌, ◌≢◌, ℕ, ◌<◌, ◌≤◌, ◌^◌, ◌&&◌, true, length, refl, arith, rules}
use Rattle.std.proofs.lemmas.Bool.{false≢true}
use Rattle.mach_base.specs.Packed.{IsPackable}
use Rattle.mach_base.specs.Machine.{Place}
use Rattle.mach_base.specs.declared.limits.TheConstants.{PLACES, MOST_HARTS}
use Rattle.mach_base.specs.declared.event.Hart.{Hart}
use Rattle.mach_base.specs.declared.event.Ending.TheVariants.{ScriptEnd, AllHalted, StepLimit, PlanEnd}
use Rattle.mach_base.specs.declared.event.Entry.{Entry}
use Rattle.mach_base.specs.declared.event.Entry.TheVariants.{Step, Intr, Send, Take, Open, Pull, Line, Plant, PlantStep, PullStep, Close, Off}
use Rattle.mach_base.proofs.Bits.{pow_32}
use Rattle.deck_core.specs.contract.Allowed.{in_session, is_of, is_lines, is_leaving}
use Rattle.atom_mach.specs.State.{hart_count}
use Rattle.atom_mach.proofs.Booleans.{and_true}
use Rattle.plant_mach.specs.Machine.{PlantedMachine}
use Rattle.plant_mach.specs.Entries.{may}
use Rattle.plant_mach.specs.Order.{IsSeated}
use Rattle.plant_mach.proofs.Sessions.{master_there}
use Rattle.bus_core.proofs.Steps.{step_facts, interrupt_facts, send_there, take_there}
use Rattle.bus_core.proofs.Sessions.{open_facts}
use Rattle.bus_core.proofs.Planting.{pull_facts, plant_facts, enabled_there}

-- an address of a step word fits its type
abbrev pub HasRange : Entry → Type 0
HasRange (PlantStep a) = a < 2 ^ 64
HasRange other = Unit {0}

pub range_of : (e : Entry) → ((a : ℕ) → e ≡ PlantStep a → ⊥) → HasRange e
range_of (Step h) none = tt
range_of (Intr h) none = tt
range_of (Send h) none = tt
range_of (Take h) none = tt
range_of (Open h late) none = tt
range_of (Pull i) none = tt
range_of (Line h) none = tt
range_of (Plant i) none = tt
range_of (PlantStep a) none = absurd (none a refl)
range_of PullStep none = tt
range_of (Close h) none = tt
range_of (Off ending) none = tt

-- the hart of a line, and of a closing, is there
pub line_is : (p : PlantedMachine) (h : Hart) → IsSeated (hart_count p.machine) p.session → may p (Line h) ≡ true → h.0 < hart_count p.machine
unfolding may
line_is p h seated e = master_there p.session (hart_count p.machine) h.0 (λ s. is_lines s.stage) seated (and_true (in_session (λ s. is_of h.0 s && is_lines s.stage) p.session) _ e).0

pub close_is : (p : PlantedMachine) (h : Hart) → IsSeated (hart_count p.machine) p.session → may p (Close h) ≡ true → h.0 < hart_count p.machine
unfolding may
close_is p h seated e = master_there p.session (hart_count p.machine) h.0 (λ s. is_leaving s.stage) seated (and_true (in_session (λ s. is_of h.0 s && is_leaving s.stage) p.session) _ e).0

-- no legal entry ends a plan
pub no_plan_end : (p : PlantedMachine) → may p (Off PlanEnd) ≡ true → ⊥
unfolding may
no_plan_end p e = false≢true e

-- what holds of the machine for this
pub record HasSizes (p : PlantedMachine) : Type 0 where
  pub harts : hart_count p.machine ≤ MOST_HARTS
  pub seated : IsSeated (hart_count p.machine) p.session
  pub planted : length p.places ≡ PLACES
  pub places : length p.machine.seen.places ≡ PLACES

pub packable : (p : PlantedMachine) (e : Entry) → HasSizes p → HasRange e → may p e ≡ true → IsPackable e
packable p (Step h) sizes range legal = let few = sizes.harts in let is = (step_facts p h legal).there in omega arith
packable p (Intr h) sizes range legal = let few = sizes.harts in let is = (interrupt_facts p h legal).there in omega arith
packable p (Send h) sizes range legal = let few = sizes.harts in let is = send_there p h legal in omega arith
packable p (Take h) sizes range legal = let few = sizes.harts in let is = take_there p h legal in omega arith
packable p (Open h late) sizes range legal =
    let few = sizes.harts in
    let is = (open_facts p h late legal).sitting in
    let there = is.master in
    let fits = is.late_ones in
    let most = pow_32 (hart_count p.machine) (omega arith) in
    (omega arith, omega arith)
packable p (Pull i) sizes range legal =
    let is = (pull_facts p i legal).there in
    let count = sizes.planted in
    omega arith
packable p (Line h) sizes range legal = let few = sizes.harts in let is = line_is p h sizes.seated legal in omega arith
packable p (PlantStep a) sizes range legal = range
packable p PullStep sizes range legal = tt
packable p (Plant i) sizes range legal =
    let is = enabled_there p i (plant_facts p i legal).enabled in
    let count = sizes.places in
    omega arith
packable p (Close h) sizes range legal = let few = sizes.harts in let is = close_is p h sizes.seated legal in omega arith
packable p (Off ScriptEnd) sizes range legal = λ e. search (rules, e)
packable p (Off AllHalted) sizes range legal = λ e. search (rules, e)
packable p (Off StepLimit) sizes range legal = λ e. search (rules, e)
packable p (Off PlanEnd) sizes range legal = absurd (no_plan_end p legal)
