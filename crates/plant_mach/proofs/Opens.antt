-- Openings and lines of the planted machine are those of the atomic one.
use Rattle.std.proofs.Common.{◌≡◌, ℕ, eqb, ◌==◌, ◌&&◌, Bool, true, false, cond, List, Option, Some, None, is_some, is_none, refl, sym, ap, subst, ◌∙◌}
use Rattle.std.proofs.lemmas.Bool.{false≢true}
use Rattle.mach_base.specs.Machine.{Machine}
use Rattle.mach_base.specs.declared.event.Hart.{Hart}
use Rattle.mach_base.specs.declared.event.Reason.{Reason}
use Rattle.mach_base.specs.declared.event.Entry.TheVariants as entry
use Rattle.kdb_cmd.specs.declared.outcomes.Outcome.{Outcome}
use Rattle.kdb_cmd.specs.declared.outcomes.Outcome.TheVariants.{Stay, Go, Step}
use Rattle.deck_core.specs.declared.plain.notes.Sitting.{Sitting}
use Rattle.deck_core.specs.declared.plain.notes.Stage.{Stage}
use Rattle.deck_core.specs.declared.plain.notes.Stage.TheVariants as stage
use Rattle.deck_core.specs.contract.Allowed.{is_of}
use Rattle.atom_mach.specs.declared.step.Mode.{Mode}
use Rattle.atom_mach.specs.declared.step.Mode.TheVariants.{Free, Pass, Back, Leave}
use Rattle.atom_mach.specs.Traps.{trap}
use Rattle.atom_mach.specs.Session.{opening_reason, mode_left, stops_again, line_effect}
use Rattle.atom_mach.proofs.Booleans.{and_true, is_none-None}
use Rattle.plant_mach.specs.Machine.{PlantedMachine, mode_at, mode_in_session}
use Rattle.plant_mach.specs.Entries.{can_sit, reason_again, reason_in, reason_now, stage_after, may}
use Rattle.plant_mach.specs.Order.{StepFits}

-- Openings.

-- the reason of an opening is that of the atomic machine in the mode that is shown
pub record IsOpened (p : PlantedMachine) (m : Hart) (late : ℕ) : Type 0 where
  pub mode : Mode
  pub shown : mode_in_session p.session ≡ Some mode
  pub why : Reason
  pub reason : reason_now p m.0 late ≡ Some why
  pub opens : opening_reason mode p.machine m.0 late ≡ Some why
  pub sits : can_sit p.machine m.0 late ≡ true
  pub bare : StepFits p.session p.step → p.step ≡ None

-- of a session at this stage
record OpensAt (k : Hart) (was : ℕ) (g : Stage) (s : Machine) (m late : ℕ) (why : Reason) : Type 0 where
  mode : Mode
  shown : mode_at k was g ≡ Some mode
  opens : opening_reason mode s m late ≡ Some why

opens-at : (k : Hart) (was : ℕ) (g : Stage) (s : Machine) (m late : ℕ) (why : Reason) → eqb k.0 m ≡ true → eqb was late ≡ true → reason_again s m g ≡ Some why → OpensAt k was g s m late why
opens-at k was stage.Lines s m late why own same e = absurd (cc)
opens-at k was (stage.Pass again) s m late why own same e = record { mode = Pass k was again; shown = refl; opens = rw (own, same) e }
opens-at k was stage.Back s m late why own same e = record { mode = Back k was; shown = refl; opens = rw (own, same) e }
opens-at k was stage.Leaving s m late why own same e = absurd (cc)

given : {A : Type 0} (b : Bool) (o : Option A) (x : A) → cond b o None ≡ Some x → (b ≡ true) × (o ≡ Some x)
given true o x e = (refl, e)
given false o x e = absurd (cc)

opened-in : (p : PlantedMachine) (m : Hart) (late : ℕ) (why : Reason) → can_sit p.machine m.0 late ≡ true → (session : Option Sitting) → p.session ≡ session → reason_in session p m.0 late ≡ Some why → IsOpened p m late
opened-in p m late why sits None is e = record { mode = Free; shown = ap mode_in_session is; why = why; reason = ap (λ session. reason_in session p m.0 late) is ∙ e; opens = e; sits = sits; bare = subst (λ session. StepFits session p.step → p.step ≡ None) (sym is) (λ fits. fits) }
opened-in p m late why sits (Some s) is e =
    let a = given (is_of m.0 s && ((s.late == late) && is_none p.step)) (reason_again p.machine m.0 s.stage) why e in
    let b = and_true (is_of m.0 s) _ a.0 in
    let c = and_true (s.late == late) (is_none p.step) b.1 in
    let at = opens-at s.master s.late s.stage p.machine m.0 late why b.0 c.0 a.1 in
    record { mode = at.mode; shown = ap mode_in_session is ∙ at.shown; why = why; reason = ap (λ session. reason_in session p m.0 late) is ∙ e; opens = at.opens; sits = sits; bare = λ fits. is_none-None p.step c.1 }

pub open-opened : (p : PlantedMachine) (m : Hart) (late : ℕ) → may p (entry.Open m late) ≡ true → IsOpened p m late
unfolding may
open-opened p m late e =
    let a = and_true (can_sit p.machine m.0 late) _ e in
    by_reason a.0 (reason_now p m.0 late) refl a.1
  where
    by_reason : can_sit p.machine m.0 late ≡ true → (o : Option Reason) → reason_now p m.0 late ≡ o → is_some o ≡ true → IsOpened p m late
    by_reason sits None is f = absurd (false≢true f)
    by_reason sits (Some why) is f = opened-in p m late why sits p.session refl is

-- Lines.

gone : (m : Hart) (late : ℕ) (b c : Bool) → eqb late 0 ≡ c → mode_at m late (stage_after (Some (cond b (Pass m late false) (cond c Free (Leave m late))))) ≡ Some (cond b (Pass m late false) (cond c Free (Leave m late)))
gone m late true c is = refl
gone m late false true is = rw is refl
gone m late false false is = rw is refl

left-in : (m : Hart) (late : ℕ) (s : Machine) (o : Outcome) (mode : Mode) → mode_left o s m late ≡ Some mode → mode_at m late (stage_after (mode_left o s m late)) ≡ Some mode
left-in m late s Stay mode e = absurd (cc)
left-in m late s Go mode e = gone m late (stops_again (trap s m.0)) (eqb late 0) refl ∙ e
left-in m late s Step mode e = e

-- the stage after a line that leaves shows the mode in which it leaves
pub left-shown : (m : Hart) (late : ℕ) (line : List ℕ) (s : Machine) (mode : Mode) → (line_effect m late line s).left ≡ Some mode → mode_at m late (stage_after (line_effect m late line s).left) ≡ Some mode
unfolding line_effect
left-shown m late line s mode e = left-in m late _ _ mode e
