-- What agrees with a reading, and how it goes on where the session's lines are over.
use Rattle.std.proofs.Common.{◌≡◌, ℕ, ◌==◌, Bool, true, false, not, cond, List, [], ◌∷◌, ◌++◌, Option, Some, None, option_map, refl, sym, ap, subst}
use Rattle.mach_base.specs.Machine.{Machine}
use Rattle.deck_core.specs.declared.plain.notes.Sitting.{Sitting}
use Rattle.deck_core.specs.contract.Allowed.{is_of}
use Rattle.atom_mach.specs.declared.step.Mode.{Mode}
use Rattle.atom_mach.specs.declared.step.AStep.{AStep}
use Rattle.atom_mach.specs.State.{State}
use Rattle.atom_mach.specs.Run.{CutAt}
use Rattle.plant_mach.specs.Machine.{PlantedMachine, mode_shown}
use Rattle.plant_mach.specs.Entries.{Made, after_pass, after_step}
use Rattle.plant_mach.specs.Reading.{Reading, settled, settled_from, with_step, IsReading}
use Rattle.plant_mach.proofs.Settled.{RunsTo, settle, run-reading}

-- whether the last session that was opened has late harts and is open
abbrev pub LateFits : Option Sitting → Bool → Type 0
LateFits None late = late ≡ false
LateFits (Some s) late = late ≡ not (s.late == 0)

-- a session that is cut off is the open one, and has no late harts
abbrev pub CutFits : Option Sitting → Option CutAt → Type 0
CutFits session None = Unit {0}
CutFits session (Some at) = (s : Sitting) × (session ≡ Some s) × (s.master ≡ at.master) × (s.late ≡ 0)

-- the reading stands for what was made, and tells of the open session
pub record Agrees (start : State) (r : Reading) (d : Made) : Type 0 where
  pub reading : IsReading start r d
  pub late : LateFits d.next.session r.late
  pub cut : CutFits d.next.session r.cut

-- a text and the machine after it
abbrev pub made_as : List ℕ → PlantedMachine → Made
made_as text p = record { text = text; next = p }

pub append-nothing : (xs : List ℕ) → xs ++ [] ≡ xs
append-nothing [] = refl
append-nothing (x ∷ xs) = ap (λ ys. x ∷ ys) (append-nothing xs)

pub settled-is : (r : Reading) → settled r ≡ record { steps = (settled r).steps; cut = None; late = r.late }
settled-is r = by_cut r.cut refl
  where
    by_cut : (at : Option CutAt) → r.cut ≡ at → settled_from at r ≡ record { steps = (settled_from at r).steps; cut = None; late = r.late }
    by_cut None e = ap (λ (c : Option CutAt). record { steps = r.steps; cut = c; late = r.late }) e
    by_cut (Some at) e = refl

-- a run agrees
pub agrees-run : (start : State) (steps : List AStep) (late : Bool) (text : List ℕ) (p : PlantedMachine) (s : Machine) (mode : Mode) → RunsTo start steps text s mode → s ≡ p.machine → mode_shown p ≡ Some mode → LateFits p.session late → Agrees start (record { steps = steps; cut = None; late = late }) (made_as text p)
agrees-run start steps late text p s mode run same shown fits = record { reading = run-reading start steps late text p s mode run same shown; late = fits; cut = tt }

pub agrees-settled : (start : State) (r : Reading) (text : List ℕ) (p : PlantedMachine) (s : Machine) (mode : Mode) → RunsTo start (settled r).steps text s mode → s ≡ p.machine → mode_shown p ≡ Some mode → LateFits p.session r.late → Agrees start (settled r) (made_as text p)
agrees-settled start r text p s mode run same shown fits =
    subst (λ (x : Reading). Agrees start x (made_as text p)) (sym (settled-is r)) (agrees-run start (settled r).steps r.late text p s mode run same shown fits)

pub agrees-step : (start : State) (r : Reading) (step : AStep) (text : List ℕ) (p : PlantedMachine) (s : Machine) (mode : Mode) → RunsTo start ((settled r).steps ++ step ∷ []) text s mode → s ≡ p.machine → mode_shown p ≡ Some mode → LateFits p.session r.late → Agrees start (with_step (settled r) step) (made_as text p)
agrees-step start r step text p s mode run same shown fits =
    subst (λ (x : Reading). Agrees start (with_step x step) (made_as text p)) (sym (settled-is r)) (agrees-run start ((settled r).steps ++ step ∷ []) r.late text p s mode run same shown fits)

-- nothing is printed, and the same is shown
pub agrees-nothing : (start : State) (r : Reading) (text : List ℕ) (p next : PlantedMachine) (mode : Mode) → Agrees start r (made_as text p) → mode_shown p ≡ Some mode → p.machine ≡ next.machine → mode_shown next ≡ Some mode → LateFits next.session r.late → Agrees start (settled r) (made_as (text ++ []) next)
agrees-nothing start r text p next mode a shown same shown_next fits =
    let run = settle start r (made_as text p) mode a.reading shown in
    subst (λ (t : List ℕ). Agrees start (settled r) (made_as t next)) (sym (append-nothing text)) (agrees-settled start r text next p.machine mode run same shown_next fits)

pub late-after_step : (h : ℕ) (session : Option Sitting) (late : Bool) → LateFits session late → LateFits (option_map (after_step h) session) late
late-after_step h None late fits = fits
late-after_step h (Some s) late fits = by_master (is_of h s)
  where
    by_master : (b : Bool) → LateFits (Some (cond b (record s { stage = after_pass s.stage }) s)) late
    by_master true = fits
    by_master false = fits
