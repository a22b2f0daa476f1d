-- Every allowed step keeps what steps keep, and every run the limits.
use Rattle.std.proofs.Common.{◌≡◌, ℕ, ◌+◌, ◌≤◌, ◌==◌, ◌&&◌, ◌||◌, Bool, true, false, cond, List, [], ◌∷◌, Option, Some, None, option_map, refl, arith}
use Rattle.std.proofs.lemmas.Bool.{false≢true}
use Rattle.mach_base.specs.declared.event.Hart.{Hart}
use Rattle.mach_base.specs.declared.event.Reason.{Reason}
use Rattle.mach_base.specs.declared.event.Ending.{Ending}
use Rattle.mach_base.specs.declared.event.Ending.TheVariants.{ScriptEnd, AllHalted, StepLimit, PlanEnd}
use Rattle.atom_mach.specs.declared.step.Mode.{Mode}
use Rattle.atom_mach.specs.declared.step.Mode.TheVariants.{Free, Hold, Pass, Back, Leave, Over}
use Rattle.atom_mach.specs.declared.step.AStep.{AStep}
use Rattle.atom_mach.specs.declared.step.AStep.TheVariants.{Instr, Intr, Session, Enter, Line, End, Off}
use Rattle.atom_mach.specs.State.{State, Done, prefixed}
use Rattle.atom_mach.specs.Traps.{executed, interrupted}
use Rattle.atom_mach.specs.Modes.{owes, owed, after_go, mode_after, is_free}
use Rattle.atom_mach.specs.Session.{is_hart, opening_reason, entered, with_read, line_effect, session, session_lines}
use Rattle.atom_mach.specs.Step.{may_run, may_pass, may_take, opened_for, can_be_late, held_for, held_line, closed, ended, is_true_ending, holds_at_end, does}
use Rattle.atom_mach.specs.Run.{run_of, then_run}
use Rattle.atom_mach.specs.Limits.{IsKept, StepsKeep, WithinLimits, RunsKeepTheLimits}
use Rattle.atom_mach.proofs.Booleans.{and_true, either_case, taken}
use Rattle.atom_mach.proofs.Steps.{may_run-below, may_take-below}
use Rattle.atom_mach.proofs.Kept.{IsKept-same, IsKept-then, executed_kept, interrupted_kept, entered_kept, line_kept, owed-low, session_lines_kept}

-- where no more is owed than lines were read, and no more steps are made than may be
record IsBounded (s : State) : Type 0 where
  pass : owed s.mode ≤ s.machine.lines_read
  steps : s.machine.steps + owed s.mode ≤ s.machine.limit + s.machine.lines_read

-- what a step keeps
record IsStep (s : State) (t : State) : Type 0 where
  kept : IsKept s.machine t.machine
  bounded : IsBounded s → IsBounded t

-- Instructions and interrupts.

owed-after_go : (m : Hart) (late : ℕ) → owed (after_go m late) ≡ 0
owed-after_go m late = by_late (late == 0)
  where
    by_late : (b : Bool) → owed (cond b Free (Leave m late)) ≡ 0
    by_late true = refl
    by_late false = refl

owed-left : (m : Hart) (late : ℕ) (again : Bool) → owed (cond again (Back m late) (after_go m late)) ≡ 0
owed-left m late true = refl
owed-left m late false = owed-after_go m late

-- an instruction makes no further one owed
owed-after : (mode : Mode) (h : ℕ) → owed (mode_after mode h) ≤ owed mode
owed-after Free h = omega arith
owed-after (Hold m late) h = omega arith
owed-after (Pass m late again) h = by_master (m.0 == h)
  where
    by_master : (b : Bool) → owed (cond b (cond again (Back m late) (after_go m late)) (Pass m late again)) ≤ 1
    by_master true = rw (owed-left m late again) (omega arith)
    by_master false = omega arith
owed-after (Back m late) h = omega arith
owed-after (Leave m late) h = omega arith
owed-after (Over ending) h = omega arith

-- the instruction that is owed is owed no more
owed-pass : (mode : Mode) (h : ℕ) → owes mode h ≡ true → (owed mode ≡ 1) × (owed (mode_after mode h) ≡ 0)
owed-pass Free h e = absurd (false≢true e)
owed-pass (Hold m late) h e = absurd (false≢true e)
owed-pass (Pass m late again) h e = (refl, rw e (owed-left m late again))
owed-pass (Back m late) h e = absurd (false≢true e)
owed-pass (Leave m late) h e = absurd (false≢true e)
owed-pass (Over ending) h e = absurd (false≢true e)

bounded_instruction : (s : State) (h : ℕ) → (may_run s h || may_pass s h) ≡ true → IsBounded s → IsBounded (record { machine = executed s.machine h; mode = mode_after s.mode h })
unfolding executed
bounded_instruction s h e b =
    let pass = b.pass in
    let steps = b.steps in
    let less = owed-after s.mode h in
    record {
      pass = omega arith;
      steps =
          either_case (may_run s h) (may_pass s h) e
          (λ runs_is. let below = may_run-below s h runs_is in omega arith)
          (λ passes. let p = owed-pass s.mode h (and_true (owes s.mode h) _ passes).0 in let was = p.0 in let is = p.1 in omega arith);
    }

is-Instr : (s : State) (h : Hart) (d : Done) → does s (Instr h) ≡ Some d → IsStep s d.next
unfolding does
is-Instr s h d e =
    let t = taken (is_hart s.machine h.0 && (may_run s h.0 || may_pass s h.0)) _ d e in
    rw (← t.1) (record { kept = executed_kept s.machine h.0; bounded = bounded_instruction s h.0 (and_true (is_hart s.machine h.0) (may_run s h.0 || may_pass s h.0) t.0).1 })

bounded_taking : (s : State) (h : ℕ) → may_take s h ≡ true → IsBounded s → IsBounded (record { machine = interrupted s.machine h; mode = s.mode })
bounded_taking s h e b =
    let pass = b.pass in
    let below = may_take-below s h e in
    record { pass = pass; steps = omega arith }

is-Intr : (s : State) (h : Hart) (d : Done) → does s (Intr h) ≡ Some d → IsStep s d.next
unfolding does
is-Intr s h d e =
    let t = taken (is_hart s.machine h.0 && may_take s h.0) _ d e in
    rw (← t.1) (record { kept = interrupted_kept s.machine h.0; bounded = bounded_taking s h.0 (and_true (is_hart s.machine h.0) (may_take s h.0) t.0).1 })

-- Sessions.

after_session : (s : State) (m : Hart) (reason : Reason) → IsStep s (session s.machine m reason).next
unfolding session
after_session s m reason =
    let lines = session_lines_kept m s.machine.unread (entered s.machine m.0) refl in
    record { kept = IsKept-then s.machine (entered s.machine m.0) _ (entered_kept s.machine m.0) lines.kept; bounded = bounded }
  where
    bounded : IsBounded s → IsBounded (session_lines m s.machine.unread (entered s.machine m.0)).next
    bounded b =
        let before = b.steps in
        let lines = session_lines_kept m s.machine.unread (entered s.machine m.0) refl in
        let steps = lines.steps in
        let pass = lines.pass in
        let limit = lines.kept.limit in
        record { pass = omega arith; steps = omega arith }

is-Session : (s : State) (m : Hart) (d : Done) → does s (Session m) ≡ Some d → IsStep s d.next
unfolding does
is-Session s m d e = by_reason (is_hart s.machine m.0) (opening_reason s.mode s.machine m.0 0) e
  where
    by_reason : (b : Bool) (r : Option Reason) → cond b (opened_for s m r) None ≡ Some d → IsStep s d.next
    by_reason false r f = absurd (cc)
    by_reason true None f = absurd (cc)
    by_reason true (Some reason) f =
        let same : session s.machine m reason ≡ d = cc in rw (← same) (after_session s m reason)

-- a mode in which nothing is owed, over a machine that is kept and makes no step
unowed : (s t : State) → owed t.mode ≡ 0 → t.machine.steps ≡ s.machine.steps → t.machine.limit ≡ s.machine.limit → s.machine.lines_read ≤ t.machine.lines_read → IsBounded s → IsBounded t
unowed s t none steps limit read b =
    let before = b.steps in record { pass = omega arith; steps = omega arith }

is-Enter : (s : State) (m : Hart) (late : ℕ) (d : Done) → does s (Enter m late) ≡ Some d → IsStep s d.next
unfolding does
is-Enter s m late d e = by_reason (can_be_late s m late) (opening_reason s.mode s.machine m.0 late) e
  where
    by_reason : (b : Bool) (r : Option Reason) → cond b (held_for s m late r) None ≡ Some d → IsStep s d.next
    by_reason false r f = absurd (cc)
    by_reason true None f = absurd (cc)
    by_reason true (Some reason) f =
        let t = taken true _ d f in
        rw (← t.1) (record { kept = entered_kept s.machine m.0; bounded = unowed s (record { machine = entered s.machine m.0; mode = Hold m late }) refl refl refl (omega arith) })

after_held : (s : State) (m : Hart) (late : ℕ) (line : List ℕ) (rest : List (List ℕ)) (mode : Mode) → s.machine.unread ≡ line ∷ rest → IsStep s (record { machine = (line_effect m late line (with_read s.machine rest)).machine; mode = mode })
unfolding line_effect
after_held s m late line rest mode is = record { kept = line_kept m late line rest s.machine is; bounded = bounded }
  where
    bounded : IsBounded s → IsBounded (record { machine = (line_effect m late line (with_read s.machine rest)).machine; mode = mode })
    bounded b =
        let before = b.steps in
        let low = owed-low mode in
        record { pass = omega arith; steps = omega arith }

is-Line : (s : State) (d : Done) → does s Line ≡ Some d → IsStep s d.next
unfolding does
is-Line s d e = by_mode s.mode s.machine.unread refl e
  where
    by_mode : (mode : Mode) (unread : List (List ℕ)) → s.machine.unread ≡ unread → held_line mode unread s.machine ≡ Some d → IsStep s d.next
    by_mode Free unread q f = absurd (cc)
    by_mode (Hold m late) [] q f = absurd (cc)
    by_mode (Hold m late) (line ∷ rest) q f = let t = taken true _ d f in rw (← t.1) (after_held s m late line rest _ q)
    by_mode (Pass m late again) unread q f = absurd (cc)
    by_mode (Back m late) unread q f = absurd (cc)
    by_mode (Leave m late) unread q f = absurd (cc)
    by_mode (Over ending) unread q f = absurd (cc)

-- Ends.

same_machine : (s : State) (mode : Mode) → owed mode ≡ 0 → IsStep s (record { machine = s.machine; mode = mode })
same_machine s mode none = record { kept = IsKept-same s.machine; bounded = unowed s (record { machine = s.machine; mode = mode }) none refl refl (omega arith) }

is-End : (s : State) (d : Done) → does s End ≡ Some d → IsStep s d.next
unfolding does
is-End s d e = by_mode s.mode e
  where
    by_mode : (mode : Mode) → closed mode s.machine ≡ Some d → IsStep s d.next
    by_mode Free f = absurd (cc)
    by_mode (Hold m late) f = absurd (cc)
    by_mode (Pass m late again) f = absurd (cc)
    by_mode (Back m late) f = absurd (cc)
    by_mode (Leave m late) f = let t = taken true _ d f in rw (← t.1) (same_machine s Free refl)
    by_mode (Over ending) f = absurd (cc)

is-ended : (s : State) (ending : Ending) (d : Done) → ended s ending ≡ Some d → IsStep s d.next
is-ended s ending d e =
    let t = taken (is_free s.mode && is_true_ending s.machine ending) _ d e in rw (← t.1) (same_machine s (Over ending) refl)

is-Off : (s : State) (ending : Ending) (d : Done) → does s (Off ending) ≡ Some d → IsStep s d.next
unfolding does
is-Off s ScriptEnd d e = let t = taken (holds_at_end s.mode s.machine.unread) _ d e in rw (← t.1) (same_machine s (Over ScriptEnd) refl)
is-Off s AllHalted d e = is-ended s AllHalted d e
is-Off s StepLimit d e = is-ended s StepLimit d e
is-Off s PlanEnd d e = absurd (cc)

-- Every step, and every run.

is_step : (s : State) (step : AStep) (d : Done) → does s step ≡ Some d → IsStep s d.next
is_step s (Instr h) d e = is-Instr s h d e
is_step s (Intr h) d e = is-Intr s h d e
is_step s (Session m) d e = is-Session s m d e
is_step s (Enter m late) d e = is-Enter s m late d e
is_step s Line d e = is-Line s d e
is_step s End d e = is-End s d e
is_step s (Off ending) d e = is-Off s ending d e

-- an allowed step keeps what steps keep
pub steps_keep : StepsKeep
steps_keep s step d e = (is_step s step d e).kept

step_within : (s : State) (step : AStep) (d : Done) → WithinLimits s → does s step ≡ Some d → WithinLimits d.next
step_within s step d w e =
    let is = is_step s step d e in
    let k = is.kept in
    let b = is.bounded (record { pass = w.pass; steps = w.steps }) in
    let harts = k.harts in
    let some_hart = w.some_hart in
    let few_harts = w.few_harts in
    let script_before = w.script in
    let script = k.script in
    let limit_before = w.limit in
    let limit = k.limit in
    record {
      some_hart = omega arith;
      few_harts = omega arith;
      segments = rw k.segments w.segments;
      symbols = rw k.symbols w.symbols;
      debugger = k.debugger w.debugger;
      script = omega arith;
      limit = omega arith;
      pass = b.pass;
      steps = b.steps;
    }

-- a run keeps the limits
pub run_within : RunsKeepTheLimits
unfolding run_of
run_within s [] d w e = let t = taken true _ d e in rw (← t.1) w
run_within s (step ∷ steps) d w e = by_step (λ next v f. run_within next steps v f) (does s step) refl e
  where
    by_rest : (text : List ℕ) (o : Option Done) → ((v : Done) → o ≡ Some v → WithinLimits v.next) → option_map (prefixed text) o ≡ Some d → WithinLimits d.next
    by_rest text None goes_on f = absurd (cc)
    by_rest text (Some v) goes_on f = let t = taken true _ d f in rw (← t.1) (goes_on v refl)

    by_step : ((next : State) (v : Done) → WithinLimits next → run_of next steps ≡ Some v → WithinLimits v.next) → (o : Option Done) → does s step ≡ o → then_run o (λ next. run_of next steps) ≡ Some d → WithinLimits d.next
    by_step goes_on None p f = absurd (cc)
    by_step goes_on (Some first) p f = by_rest first.text (run_of first.next steps) (λ v g. goes_on first.next v (step_within s step first w p) g) f
