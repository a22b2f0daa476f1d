-- The mode that is shown: that there is one, and how it goes on.
use Rattle.std.proofs.Common.{◌≡◌, ℕ, eqb, Bool, true, false, not, cond, Option, Some, None, option_map, refl, sym, ap, ◌∙◌}
use Rattle.std.proofs.lemmas.Bool.{false≢true, eqb-true}
use Rattle.mach_base.specs.Machine.{Machine}
use Rattle.mach_base.specs.Masks.{has_bit}
use Rattle.mach_base.proofs.Bits.{has_bit-zero}
use Rattle.mach_base.specs.declared.event.Hart.{Hart}
use Rattle.mach_base.specs.declared.event.Ending.{Ending}
use Rattle.deck_core.specs.declared.plain.notes.Sitting.{Sitting}
use Rattle.deck_core.specs.declared.plain.notes.Stage.{Stage}
use Rattle.deck_core.specs.declared.plain.notes.Stage.TheVariants as stage
use Rattle.deck_core.specs.contract.Allowed.{in_session, is_of}
use Rattle.atom_mach.specs.declared.step.Mode.{Mode}
use Rattle.atom_mach.specs.declared.step.Mode.TheVariants.{Free, Hold, Pass, Back, Leave}
use Rattle.atom_mach.specs.Modes.{runs, after_go, mode_after}
use Rattle.atom_mach.specs.Traps.{trap, late_trap}
use Rattle.atom_mach.specs.Step.{trap_in}
use Rattle.plant_mach.specs.Machine.{PlantedMachine, is_held, mode_at, mode_in_session, mode_of, mode_shown}
use Rattle.plant_mach.specs.Entries.{after_pass, after_step}

-- While the run goes on, it is the session's.
pub shown-session : (p : PlantedMachine) → p.ending ≡ None → mode_shown p ≡ mode_in_session p.session
shown-session p e = ap (λ (ending : Option Ending). mode_of ending p.session) e

-- After an instruction.

-- no late hart, or some
after_go-after : (m : Hart) (late h : ℕ) → mode_after (after_go m late) h ≡ after_go m late
after_go-after m late h = by_late (eqb late 0)
  where
    by_late : (b : Bool) → mode_after (cond b Free (Leave m late)) h ≡ cond b Free (Leave m late)
    by_late true = refl
    by_late false = refl

same : (b : Bool) (g : Stage) → cond b g g ≡ g
same true g = refl
same false g = refl

stays : (a b mode : Mode) (h : ℕ) → Some a ≡ Some mode → mode_after a h ≡ a → Some a ≡ Some (mode_after mode h)
stays a b mode h e f =
    let q : a ≡ mode = cc in
    rw (← q, f) refl

at_lines : (m : Hart) (late h : ℕ) (c : Bool) (mode : Mode) → cond c None (Some (Hold m late)) ≡ Some mode → cond c None (Some (Hold m late)) ≡ Some (mode_after mode h)
at_lines m late h true mode e = absurd (cc)
at_lines m late h false mode e = stays (Hold m late) Free mode h e refl

passed : (m : Hart) (late h : ℕ) (again b : Bool) (mode : Mode) → eqb m.0 h ≡ b → Some (Pass m late again) ≡ Some mode → mode_at m late (cond b (after_pass (stage.Pass again)) (stage.Pass again)) ≡ Some (mode_after mode h)
passed m late h true true mode own e = let q : Pass m late true ≡ mode = cc in rw (← q, own) refl
passed m late h false true mode own e = let q : Pass m late false ≡ mode = cc in rw (← q, own) refl
passed m late h again false mode own e = let q : Pass m late again ≡ mode = cc in rw (← q, own) refl

at_stage : (m : Hart) (late h : ℕ) (g : Stage) (b : Bool) (mode : Mode) → eqb m.0 h ≡ b → mode_at m late g ≡ Some mode → mode_at m late (cond b (after_pass g) g) ≡ Some (mode_after mode h)
at_stage m late h stage.Lines b mode own e = ap (mode_at m late) (same b stage.Lines) ∙ at_lines m late h (eqb late 0) mode e
at_stage m late h (stage.Pass again) b mode own e = passed m late h again b mode own e
at_stage m late h stage.Back b mode own e = ap (mode_at m late) (same b stage.Back) ∙ stays (Back m late) Free mode h e refl
at_stage m late h stage.Leaving b mode own e = ap (mode_at m late) (same b stage.Leaving) ∙ stays (after_go m late) Free mode h e (after_go-after m late h)

in_parts : (h : ℕ) (s : Sitting) → mode_in_session (Some (after_step h s)) ≡ mode_at s.master s.late (cond (is_of h s) (after_pass s.stage) s.stage)
in_parts h s = by_master (is_of h s)
  where
    by_master : (b : Bool) → mode_in_session (Some (cond b (record s { stage = after_pass s.stage }) s)) ≡ mode_at s.master s.late (cond b (after_pass s.stage) s.stage)
    by_master true = refl
    by_master false = refl

-- the mode after an instruction of the hart is the one that the session shows then
pub shown-after_step : (h : ℕ) (session : Option Sitting) (mode : Mode) → mode_in_session session ≡ Some mode → mode_in_session (option_map (after_step h) session) ≡ Some (mode_after mode h)
shown-after_step h None mode e = stays Free Free mode h e refl
shown-after_step h (Some s) mode e = in_parts h s ∙ at_stage s.master s.late h s.stage (is_of h s) mode refl e

-- Harts that no session holds.

-- the mode that is shown, in which the hart runs, and has no trap where it has none of that mode
pub record IsShown (session : Option Sitting) (h : ℕ) : Type 0 where
  pub mode : Mode
  pub shown : mode_in_session session ≡ Some mode
  pub runs_in : (opened : Bool) → opened ≡ true → runs mode opened h ≡ true
  pub traps : (s : Machine) → (session ≡ None → trap s h ≡ None) → late_trap s h ≡ None → trap_in mode s h ≡ None

some_late : (late h : ℕ) → has_bit late h ≡ true → eqb late 0 ≡ false
some_late late h e = by_late (eqb late 0) refl
  where
    by_late : (b : Bool) → eqb late 0 ≡ b → eqb late 0 ≡ false
    by_late false f = f
    by_late true f =
        let none : late ≡ 0 = eqb-true late 0 f in
        absurd (false≢true (sym (has_bit-zero h) ∙ rw none at e))

not_held-late : (s : Sitting) (h : ℕ) → not (has_bit s.late h) ≡ false → has_bit s.late h ≡ true
not_held-late s h e = by_bit (has_bit s.late h) e
  where
    by_bit : (b : Bool) → not b ≡ false → b ≡ true
    by_bit true f = refl
    by_bit false f = absurd (false≢true (sym f))

-- what a late hart sees of a session at this stage
record RunsAt (m : Hart) (late h : ℕ) (g : Stage) : Type 0 where
  mode : Mode
  shown : mode_at m late g ≡ Some mode
  runs_in : (opened : Bool) → runs mode opened h ≡ true
  traps : (s : Machine) → late_trap s h ≡ None → trap_in mode s h ≡ None

runs-at : (m : Hart) (late h : ℕ) (g : Stage) → has_bit late h ≡ true → RunsAt m late h g
runs-at m late h stage.Lines e = record { mode = Hold m late; shown = rw (some_late late h e) refl; runs_in = λ opened. e; traps = λ s none. none }
runs-at m late h (stage.Pass again) e = record { mode = Pass m late again; shown = refl; runs_in = λ opened. e; traps = λ s none. none }
runs-at m late h stage.Back e = record { mode = Back m late; shown = refl; runs_in = λ opened. e; traps = λ s none. none }
runs-at m late h stage.Leaving e = record { mode = Leave m late; shown = rw (some_late late h e) refl; runs_in = λ opened. e; traps = λ s none. none }

shown-in : (session : Option Sitting) (h : ℕ) → in_session (λ s. not (has_bit s.late h)) session ≡ false → IsShown session h
shown-in None h e = record { mode = Free; shown = refl; runs_in = λ opened is. is; traps = λ s none late. none refl }
shown-in (Some s) h e =
    let r = runs-at s.master s.late h s.stage (not_held-late s h e) in
    record { mode = r.mode; shown = r.shown; runs_in = λ opened is. r.runs_in opened; traps = λ s none late. r.traps s late }

pub not_held-shown : (p : PlantedMachine) (h : ℕ) → is_held p h ≡ false → IsShown p.session h
not_held-shown p h e = shown-in p.session h e
