-- Each step of a machine with one hart leaves less to do.
use Rattle.std.proofs.Common.{◌≡◌, ℕ, ◌+◌, ◌-◌, ◌*◌, ◌<◌, ◌≤◌, ◌==◌, ◌&&◌, ◌||◌, Bool, true, false, cond, IsTrue, List, [], ◌∷◌, length, Option, Some, None, refl, arith}
use Rattle.std.proofs.lemmas.Bool.{false≢true}
use Rattle.mach_base.specs.Machine.{Machine}
use Rattle.mach_base.specs.declared.event.Hart.{Hart}
use Rattle.mach_base.specs.declared.event.Reason.{Reason}
use Rattle.mach_base.specs.declared.event.Ending.{Ending}
use Rattle.mach_base.specs.declared.event.Ending.TheVariants.{AllHalted, StepLimit}
use Rattle.atom_mach.specs.declared.step.Mode.{Mode}
use Rattle.atom_mach.specs.declared.step.Mode.TheVariants.{Free, Hold, Pass, Back, Leave, Over}
use Rattle.atom_mach.specs.declared.step.AStep.TheVariants.{Instr, Intr, Session, Off}
use Rattle.atom_mach.specs.State.{State, Done}
use Rattle.atom_mach.specs.Traps.{executed}
use Rattle.atom_mach.specs.Modes.{mode_after, owes, is_free, is_alone, ending_of}
use Rattle.atom_mach.specs.Session.{is_hart, opening_reason, session, session_lines, after_line, with_read, entered, Cut, line_effect}
use Rattle.atom_mach.specs.Step.{does, may_run, may_pass, may_take, opened_for, is_true_ending, ended}
use Rattle.atom_mach.specs.Work.{weight, work_left}
use Rattle.atom_mach.proofs.Booleans.{and_true, either_case, taken}
use Rattle.atom_mach.proofs.Steps.{may_run-alone, may_run-below, may_take-below}

abbrev h0 : Hart
h0 = record { 0 = 0 }

pub less-Intr : (s : State) (d : Done) → does s (Intr h0) ≡ Some d → work_left d.next < work_left s
unfolding does
less-Intr s d e =
    let t = taken (is_hart s.machine 0 && may_take s 0) _ d e in
    let below = may_take-below s 0 (and_true (is_hart s.machine 0) (may_take s 0) t.0).1 in
    rw (← t.1) (omega arith)

pass_weight : (mode : Mode) → is_alone mode ≡ true → owes mode 0 ≡ true → (weight (mode_after mode 0) ≡ 1) × (weight mode ≡ 2)
pass_weight Free h e = absurd (false≢true e)
pass_weight (Hold m late) h e = absurd (false≢true e)
pass_weight (Pass m late again) h e = (rw (e, (and_true (m.0 == 0) (late == 0) h).1) (either again), refl)
  where
    either : (b : Bool) → weight (cond b (Back m late) Free) ≡ 1
    either true = refl
    either false = refl
pass_weight (Back m late) h e = absurd (false≢true e)
pass_weight (Leave m late) h e = absurd (false≢true e)
pass_weight (Over ending) h e = absurd (false≢true e)

free_weight : (mode : Mode) → mode ≡ Free → (weight (mode_after mode 0) ≡ 1) × (weight mode ≡ 1)
free_weight mode e = rw e (refl, refl)

pub less-Instr : (s : State) (d : Done) → IsTrue (is_alone s.mode) → does s (Instr h0) ≡ Some d → work_left d.next < work_left s
unfolding does executed
less-Instr s d alone e =
    let t = taken (is_hart s.machine 0 && (may_run s 0 || may_pass s 0)) _ d e in
    let p = and_true (is_hart s.machine 0) (may_run s 0 || may_pass s 0) t.0 in
    rw (← t.1)
    (either_case (may_run s 0) (may_pass s 0) p.1
    (λ runs_is. let w = free_weight s.mode (may_run-alone s alone runs_is) in let below = may_run-below s 0 runs_is in omega arith)
    (λ passes. let w = pass_weight s.mode alone (and_true (owes s.mode 0) _ passes).0 in omega arith))

less-Off : (s : State) (ending : Ending) (d : Done) → ended s ending ≡ Some d → work_left d.next < work_left s
less-Off s ending d e =
    let t = taken (is_free s.mode && is_true_ending s.machine ending) _ d e in
    let free = free_is s.mode (and_true (is_free s.mode) _ t.0).0 in
    rw (← t.1, free) (omega arith)
  where
    free_is : (mode : Mode) → is_free mode ≡ true → mode ≡ Free
    free_is Free h = refl
    free_is (Hold m late) h = absurd (false≢true h)
    free_is (Pass m late again) h = absurd (false≢true h)
    free_is (Back m late) h = absurd (false≢true h)
    free_is (Leave m late) h = absurd (false≢true h)
    free_is (Over over) h = absurd (false≢true h)

pub less-AllHalted : (s : State) (d : Done) → does s (Off AllHalted) ≡ Some d → work_left d.next < work_left s
unfolding does
less-AllHalted s d e = less-Off s AllHalted d e

pub less-StepLimit : (s : State) (d : Done) → does s (Off StepLimit) ≡ Some d → work_left d.next < work_left s
unfolding does
less-StepLimit s d e = less-Off s StepLimit d e

weight-low : (mode : Mode) → weight mode ≤ 2
weight-low Free = omega arith
weight-low (Hold m late) = omega arith
weight-low (Pass m late again) = omega arith
weight-low (Back m late) = omega arith
weight-low (Leave m late) = omega arith
weight-low (Over ending) = omega arith

after_le : (left : Option Mode) (c : Cut) (rest : Done) (bound : ℕ) → work_left rest.next ≤ bound → (c.machine.limit - c.machine.steps) + 3 * length c.machine.unread + 2 ≤ bound → work_left (after_line left c rest).next ≤ bound
after_le None c rest bound le lt = le
after_le (Some mode) c rest bound le lt = let low = weight-low mode in omega arith

lines_work : (m : Hart) (unread : List (List ℕ)) (s : Machine) → s.unread ≡ unread → work_left (session_lines m unread s).next ≤ (s.limit - s.steps) + 3 * length unread
unfolding session_lines line_effect
lines_work m [] s e = rw e (omega arith)
lines_work m (line ∷ rest) s e =
    let effect = line_effect m 0 line (with_read s rest) in
    after_le effect.left effect (session_lines m rest effect.machine) ((s.limit - s.steps) + 3 * length (line ∷ rest))
    (let more = lines_work m rest effect.machine refl in omega arith)
    (omega arith)

heavy : (mode : Mode) → ending_of mode ≡ None → 0 < weight mode
heavy Free e = omega arith
heavy (Hold m late) e = omega arith
heavy (Pass m late again) e = omega arith
heavy (Back m late) e = omega arith
heavy (Leave m late) e = omega arith
heavy (Over ending) e = absurd (cc)

session_work : (s : State) (reason : Reason) → work_left (session s.machine h0 reason).next ≤ (s.machine.limit - s.machine.steps) + 3 * length s.machine.unread
unfolding session
session_work s reason = lines_work h0 s.machine.unread (entered s.machine 0) refl

opened_work : (s : State) (d : Done) (r : Option Reason) → ending_of s.mode ≡ None → opened_for s h0 r ≡ Some d → work_left d.next < work_left s
opened_work s d None running e = absurd (cc)
opened_work s d (Some reason) running e =
    let same : session s.machine h0 reason ≡ d = cc in
    let le = session_work s reason in
    let some = heavy s.mode running in
    rw (← same) (omega arith)

if_hart : (s : State) (d : Done) (b : Bool) (r : Option Reason) → ending_of s.mode ≡ None → cond b (opened_for s h0 r) None ≡ Some d → work_left d.next < work_left s
if_hart s d true r running e = opened_work s d r running e
if_hart s d false r running e = absurd (cc)

pub less-Session : (s : State) (d : Done) → ending_of s.mode ≡ None → does s (Session h0) ≡ Some d → work_left d.next < work_left s
unfolding does
less-Session s d running e = if_hart s d (is_hart s.machine 0) (opening_reason s.mode s.machine 0 0) running e
