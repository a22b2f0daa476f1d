-- A reading whose session is no more than lines, as a run; and how runs grow.
use Rattle.std.proofs.Common.{◌≡◌, ℕ, Bool, List, [], ◌∷◌, ◌++◌, Option, Some, None, refl, sym, ap, ◌∙◌}
use Rattle.mach_base.specs.Machine.{Machine}
use Rattle.atom_mach.specs.declared.step.Mode.{Mode}
use Rattle.atom_mach.specs.declared.step.AStep.{AStep}
use Rattle.atom_mach.specs.declared.step.AStep.TheVariants.{Session}
use Rattle.atom_mach.specs.State.{State, Done}
use Rattle.atom_mach.specs.Step.{does}
use Rattle.atom_mach.specs.Run.{CutAt, run_of}
use Rattle.atom_mach.proofs.Runs.{run_of-snoc}
use Rattle.atom_mach.proofs.Cuts.{cuts_leave}
use Rattle.plant_mach.specs.Machine.{PlantedMachine, mode_shown}
use Rattle.plant_mach.specs.Entries.{Made}
use Rattle.plant_mach.specs.Reading.{Reading, settled, Stands, IsReading}

-- a state and what was printed
abbrev pub done_as : List ℕ → Machine → Mode → Done
done_as text s mode = record { text = text; next = record { machine = s; mode = mode } }

-- the run of these steps prints the text and comes to the machine in the mode
abbrev pub RunsTo : State → List AStep → List ℕ → Machine → Mode → Type 0
RunsTo start steps text s mode = run_of start steps ≡ Some (done_as text s mode)

same_done : (d : Done) (text : List ℕ) (s : Machine) (mode : Mode) → d.text ≡ text → d.next.machine ≡ s → d.next.mode ≡ mode → d ≡ done_as text s mode
same_done d text s mode e f g = rw (← e, ← f, ← g) refl

-- one step more
pub one_more : (start : State) (steps : List AStep) (text more : List ℕ) (s t : Machine) (mode next : Mode) (step : AStep) → RunsTo start steps text s mode → does (record { machine = s; mode = mode }) step ≡ Some (done_as more t next) → RunsTo start (steps ++ step ∷ []) (text ++ more) t next
one_more start steps text more s t mode next step run done = run_of-snoc start steps (done_as text s mode) step (done_as more t next) run done

some_same : (a b : Mode) → Some a ≡ Some b → a ≡ b
some_same a b e = cc

settled_in : (start : State) (steps : List AStep) (late : Bool) (at : Option CutAt) (last : Done) (d : Made) (mode : Mode) → run_of start steps ≡ Some last → Stands at last d → mode_shown d.next ≡ Some mode →
    RunsTo start (settled (record { steps = steps; cut = at; late = late })).steps d.text d.next.machine mode
settled_in start steps late None last d mode run stands shown =
    run ∙ ap Some (same_done last d.text d.next.machine mode stands.0 stands.1 (some_same last.next.mode mode (stands.2 ∙ shown)))
settled_in start steps late (Some at) last d mode run (c, cut, text, machine, left) shown =
    let done = cuts_leave last.next at.master at.lines c mode cut (left ∙ shown) in
    run_of-snoc start steps last (Session at.master) (done_as c.text c.machine mode) run done
    ∙ ap Some (same_done (done_as (last.text ++ c.text) c.machine mode) d.text d.next.machine mode text machine refl)

-- a reading is settled where a mode is shown
pub settle : (start : State) (r : Reading) (d : Made) (mode : Mode) → IsReading start r d → mode_shown d.next ≡ Some mode → RunsTo start (settled r).steps d.text d.next.machine mode
settle start r d mode is shown = settled_in start r.steps r.late r.cut is.last d mode is.run is.stands shown

-- and a run is a reading
pub run-reading : (start : State) (steps : List AStep) (late : Bool) (text : List ℕ) (p : PlantedMachine) (s : Machine) (mode : Mode) → RunsTo start steps text s mode → s ≡ p.machine → mode_shown p ≡ Some mode → IsReading start (record { steps = steps; cut = None; late = late }) (record { text = text; next = p })
run-reading start steps late text p s mode run same shown = record { last = done_as text s mode; run = run; stands = (refl, same, sym shown) }
