-- Entries that end the session's lines: instructions, interrupts, calls, and what is planted and pulled.
use Rattle.std.proofs.Common.{◌≡◌, ℕ, ◌&&◌, Bool, true, not, List, [], ◌++◌, Option, Some, None, is_some, is_none, option_map, refl, sym, ap, subst, ◌∙◌}
use Rattle.std.proofs.lemmas.Bool.{false≢true}
use Rattle.mach_base.specs.declared.event.Hart.{Hart}
use Rattle.mach_base.specs.declared.event.Entry.TheVariants as entry
use Rattle.deck_core.specs.declared.plain.notes.Sitting.{Sitting}
use Rattle.deck_core.specs.declared.plain.notes.Stage.{Stage}
use Rattle.deck_core.specs.declared.plain.notes.Stage.TheVariants as stage
use Rattle.deck_core.specs.contract.Allowed.{is_pass, is_leaving, is_address}
use Rattle.bus_plant.specs.Laws.{RawFetches}
use Rattle.atom_mach.specs.declared.step.Mode.{Mode}
use Rattle.atom_mach.specs.declared.step.Mode.TheVariants.{Free, Pass, Back}
use Rattle.atom_mach.specs.declared.step.AStep.TheVariants.{Instr, Intr}
use Rattle.atom_mach.specs.State.{State}
use Rattle.atom_mach.specs.Traps.{executed, console_text, interrupted}
use Rattle.atom_mach.specs.Modes.{mode_after, after_go}
use Rattle.atom_mach.specs.Session.{is_hart}
use Rattle.atom_mach.specs.Run.{CutAt}
use Rattle.atom_mach.specs.State.{Done}
use Rattle.atom_mach.proofs.Booleans.{and_true, not_is, is_none-None}
use Rattle.plant_mach.specs.Machine.{PlantedMachine, is_held, mode_at, mode_in_session, mode_shown}
use Rattle.plant_mach.specs.Entries.{after_step, is_called, step_address, may_pull_step, may, effect}
use Rattle.plant_mach.specs.Reading.{Reading, with_entry, Stands}
use Rattle.plant_mach.specs.Order.{IsOrderly, StepFits, StepFitsStage}
use Rattle.plant_mach.proofs.Sessions.{in_session-open, is_pass-Pass, is_leaving-Leaving}
use Rattle.plant_mach.proofs.Settled.{settle, one_more}
use Rattle.plant_mach.proofs.Shown.{shown-session, shown-after_step, not_held-shown}
use Rattle.plant_mach.proofs.Executes.{step-executed, intr-interrupted}
use Rattle.plant_mach.proofs.Agreeing.{Agrees, made_as, append-nothing, agrees-step, agrees-nothing, late-after_step}

pub reads-Step : RawFetches → (start : State) (r : Reading) (text : List ℕ) (p : PlantedMachine) (h : Hart) → IsOrderly p → Agrees start r (made_as text p) → p.ending ≡ None → may p (entry.Step h) ≡ true → Agrees start (with_entry r (entry.Step h)) (made_as (text ++ (effect p (entry.Step h)).text) (effect p (entry.Step h)).next)
unfolding effect
reads-Step raw start r text p h ordered a ending e =
    let x = step-executed raw p h ordered e in
    let next = record p { machine = executed p.machine h.0; session = option_map (after_step h.0) p.session } in
    let run = settle start r (made_as text p) x.mode a.reading (shown-session p ending ∙ x.shown) in
    agrees-step start r (Instr h) (text ++ console_text p.machine h.0) next (executed p.machine h.0) (mode_after x.mode h.0)
    (one_more start _ text (console_text p.machine h.0) p.machine (executed p.machine h.0) x.mode (mode_after x.mode h.0) (Instr h) run x.done)
    refl (shown-session next ending ∙ shown-after_step h.0 p.session x.mode x.shown) (late-after_step h.0 p.session r.late a.late)

pub reads-Intr : (start : State) (r : Reading) (text : List ℕ) (p : PlantedMachine) (h : Hart) → Agrees start r (made_as text p) → p.ending ≡ None → may p (entry.Intr h) ≡ true → Agrees start (with_entry r (entry.Intr h)) (made_as (text ++ (effect p (entry.Intr h)).text) (effect p (entry.Intr h)).next)
unfolding effect
reads-Intr start r text p h a ending e =
    let x = intr-interrupted p h e in
    let next = record p { machine = interrupted p.machine h.0 } in
    let shown = shown-session p ending ∙ x.shown in
    let run = settle start r (made_as text p) x.mode a.reading shown in
    agrees-step start r (Intr h) (text ++ []) next (interrupted p.machine h.0) x.mode
    (one_more start _ text [] p.machine (interrupted p.machine h.0) x.mode x.mode (Intr h) run x.done)
    refl shown a.late

-- Calls.

pub reads-Send : (start : State) (r : Reading) (text : List ℕ) (p : PlantedMachine) (h : Hart) → Agrees start r (made_as text p) → p.ending ≡ None → may p (entry.Send h) ≡ true → Agrees start (with_entry r (entry.Send h)) (made_as (text ++ (effect p (entry.Send h)).text) (effect p (entry.Send h)).next)
unfolding effect may
reads-Send start r text p h a ending e =
    let free = is_none-None p.session (and_true (is_hart p.machine h.0) _ e).1 in
    let shown : mode_shown p ≡ Some Free = shown-session p ending ∙ ap mode_in_session free in
    agrees-nothing start r text p _ Free a shown refl shown a.late

pub reads-Take : (start : State) (r : Reading) (text : List ℕ) (p : PlantedMachine) (h : Hart) → Agrees start r (made_as text p) → p.ending ≡ None → may p (entry.Take h) ≡ true → Agrees start (with_entry r (entry.Take h)) (made_as (text ++ (effect p (entry.Take h)).text) (effect p (entry.Take h)).next)
unfolding effect may
reads-Take start r text p h a ending e =
    let b = and_true (is_hart p.machine h.0) _ e in
    let c = and_true (is_called p h.0) _ b.1 in
    let d = and_true _ (not (is_held p h.0)) c.1 in
    let x = not_held-shown p h.0 (not_is (is_held p h.0) d.1) in
    let shown = shown-session p ending ∙ x.shown in
    agrees-nothing start r text p _ x.mode a shown refl shown a.late

-- What is planted and pulled.

kept-stands : (at : Option CutAt) (last : Done) (text : List ℕ) (p : PlantedMachine) (places : List (Option ℕ)) → Stands at last (made_as text p) → Stands at last (made_as text (record p { places = places }))
kept-stands None last text p places s = s
kept-stands (Some at) last text p places s = s

pub reads-Pull : (start : State) (r : Reading) (text : List ℕ) (p : PlantedMachine) (i : ℕ) → Agrees start r (made_as text p) → Agrees start (with_entry r (entry.Pull i)) (made_as (text ++ (effect p (entry.Pull i)).text) (effect p (entry.Pull i)).next)
unfolding effect
reads-Pull start r text p i a =
    let next = (effect p (entry.Pull i)).next in
    let is : Agrees start r (made_as text next) = record { reading = record { last = a.reading.last; run = a.reading.run; stands = kept-stands r.cut a.reading.last text p next.places a.reading.stands }; late = a.late; cut = a.cut } in
    subst (λ (t : List ℕ). Agrees start r (made_as t next)) (sym (append-nothing text)) is

pub reads-PlantStep : (start : State) (r : Reading) (text : List ℕ) (p : PlantedMachine) (addr : ℕ) → Agrees start r (made_as text p) → p.ending ≡ None → may p (entry.PlantStep addr) ≡ true → Agrees start (with_entry r (entry.PlantStep addr)) (made_as (text ++ (effect p (entry.PlantStep addr)).text) (effect p (entry.PlantStep addr)).next)
unfolding effect may
reads-PlantStep start r text p addr a ending e =
    let test : Sitting → Bool = λ s. is_pass s.stage && is_address addr (step_address p.machine s.master.0) in
    let found = in_session-open test p.session (and_true _ (is_none p.step) e).0 in
    let s = found.sitting in
    let pass = is_pass-Pass s.stage (and_true (is_pass s.stage) _ found.passes).0 in
    let mode = Pass s.master s.late pass.again in
    let shown : mode_shown p ≡ Some mode = shown-session p ending ∙ ap mode_in_session found.is ∙ ap (mode_at s.master s.late) pass.is in
    agrees-nothing start r text p _ mode a shown refl shown a.late

-- the mode of a session at a stage at which a step word may stand
record IsPast (m : Hart) (late : ℕ) (g : Stage) : Type 0 where
  mode : Mode
  shown : mode_at m late g ≡ Some mode

past : (m : Hart) (late : ℕ) (g : Stage) (step : Option ℕ) → StepFitsStage g step → is_some step ≡ true → IsPast m late g
past m late stage.Lines step fits e = absurd (false≢true (sym (ap is_some fits) ∙ e))
past m late (stage.Pass again) step fits e = record { mode = Pass m late again; shown = refl }
past m late stage.Back step fits e = record { mode = Back m late; shown = refl }
past m late stage.Leaving step fits e = record { mode = after_go m late; shown = refl }

pub reads-PullStep : (start : State) (r : Reading) (text : List ℕ) (p : PlantedMachine) → IsOrderly p → Agrees start r (made_as text p) → p.ending ≡ None → may p entry.PullStep ≡ true → Agrees start (with_entry r entry.PullStep) (made_as (text ++ (effect p entry.PullStep).text) (effect p entry.PullStep).next)
unfolding effect may
reads-PullStep start r text p ordered a ending e =
    let b = and_true (is_some p.step) _ e in
    let found = in_session-open (may_pull_step p) p.session b.1 in
    let s = found.sitting in
    let x = past s.master s.late s.stage p.step (subst (λ session. StepFits session p.step) found.is ordered.step) b.0 in
    let shown : mode_shown p ≡ Some x.mode = shown-session p ending ∙ ap mode_in_session found.is ∙ x.shown in
    agrees-nothing start r text p _ x.mode a shown refl shown a.late

pub reads-Plant : (start : State) (r : Reading) (text : List ℕ) (p : PlantedMachine) (i : ℕ) → Agrees start r (made_as text p) → p.ending ≡ None → may p (entry.Plant i) ≡ true → Agrees start (with_entry r (entry.Plant i)) (made_as (text ++ (effect p (entry.Plant i)).text) (effect p (entry.Plant i)).next)
unfolding effect may
reads-Plant start r text p i a ending e =
    let found = in_session-open (λ s. is_leaving s.stage) p.session (and_true _ _ e).0 in
    let s = found.sitting in
    let mode = after_go s.master s.late in
    let shown : mode_shown p ≡ Some mode = shown-session p ending ∙ ap mode_in_session found.is ∙ ap (mode_at s.master s.late) (is_leaving-Leaving s.stage found.passes) in
    agrees-nothing start r text p _ mode a shown refl shown a.late
