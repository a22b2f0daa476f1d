-- A session with late harts keeps the harts that it holds, and they stand still.
use Rattle.std.proofs.Common.{◌≡◌, ◌≢◌, ℕ, ◌==◌, ◌&&◌, ◌||◌, eqb, Bool, true, false, not, cond, Option, Some, None, Result, Ok, Err, refl, sym, ap, ◌∙◌}
use Rattle.std.proofs.lemmas.Bool.{eq-eqb, false≢true}
use Rattle.mach_base.specs.Masks.{has_bit}
use Rattle.mach_base.specs.Machine.{Machine}
use Rattle.mach_base.specs.declared.event.Hart.{Hart}
use Rattle.mach_base.specs.declared.event.Fault.{Fault}
use Rattle.mach_base.specs.declared.event.Reason.{Reason}
use Rattle.mach_base.specs.declared.event.Ending.{Ending}
use Rattle.mach_base.specs.declared.event.Ending.TheVariants.{ScriptEnd, AllHalted, StepLimit, PlanEnd}
use Rattle.hart_ctx.specs.Context.{context_of, IsUnmoved}
use Rattle.hart_step.proofs.Frame.{keeps_others, interrupt_keeps}
use Rattle.atom_mach.specs.declared.step.Mode.{Mode}
use Rattle.atom_mach.specs.declared.step.Mode.TheVariants.{Free, Hold, Pass, Back, Leave, Over}
use Rattle.atom_mach.specs.declared.step.AStep.TheVariants.{Instr, Intr, Session, Enter, Line, End, Off}
use Rattle.atom_mach.specs.State.{State, context_at, Done}
use Rattle.atom_mach.specs.Traps.{fetched_at, executed, interrupted}
use Rattle.atom_mach.specs.Modes.{runs, owes, is_free}
use Rattle.atom_mach.specs.Session.{opening_reason, is_hart}
use Rattle.atom_mach.specs.Step.{does, held_for, closed, ended, is_true_ending, holds_at_end, may_run, may_pass, may_take, can_be_late}
use Rattle.atom_mach.specs.Late.{is_gathered, LateSessionsKeepGatheredHarts, GatheredHartsStand}
use Rattle.atom_mach.proofs.Booleans.{cond_false, and_true, and_false, and_first, and_second, not_is, taken, either_none}
use Rattle.atom_mach.proofs.Frame.{IsUnmoved-same}

-- a hart that is held doesn't run
runs_not : (mode : Mode) (opened : Bool) (h : ℕ) → is_gathered mode h ≡ true → runs mode opened h ≡ false
runs_not Free opened h e = absurd (false≢true e)
runs_not (Hold m late) opened h e = not_is (has_bit late h) e
runs_not (Pass m late again) opened h e = not_is (has_bit late h) (and_true (not (late == 0)) (not (has_bit late h)) e).1
runs_not (Back m late) opened h e = not_is (has_bit late h) (and_true (not (late == 0)) (not (has_bit late h)) e).1
runs_not (Leave m late) opened h e = not_is (has_bit late h) e
runs_not (Over ending) opened h e = absurd (false≢true e)

-- where a hart is held no session with no late harts opens
opening_none : (mode : Mode) (s : Machine) (m h : ℕ) → is_gathered mode h ≡ true → opening_reason mode s m 0 ≡ None
opening_none Free s m h e = absurd (false≢true e)
opening_none (Hold k late) s m h e = refl
opening_none (Pass k late again) s m h e =
    let some_late = not_is (late == 0) (and_true (not (late == 0)) (not (has_bit late h)) e).0 in
    rw some_late (cond_false ((k.0 == m) && false) _ _ (and_false (k.0 == m)))
opening_none (Back k late) s m h e =
    let some_late = not_is (late == 0) (and_true (not (late == 0)) (not (has_bit late h)) e).0 in
    rw some_late (cond_false ((k.0 == m) && false) _ _ (and_false (k.0 == m)))
opening_none (Leave k late) s m h e = refl
opening_none (Over ending) s m h e = absurd (false≢true e)

-- nor does a session of another hart
no_session : (s : State) (m : Hart) (h : ℕ) → is_gathered s.mode h ≡ true → does s (Session m) ≡ None
unfolding does
no_session s m h e = rw (opening_none s.mode s.machine m.0 h e) (either_none (is_hart s.machine m.0))

no_interrupt : (s : State) (h : Hart) → is_gathered s.mode h.0 ≡ true → does s (Intr h) ≡ None
unfolding does
no_interrupt s h e =
    let still : may_take s h.0 ≡ false = and_first (runs s.mode s.machine.opened h.0) _ (runs_not s.mode s.machine.opened h.0 e) in
    cond_false (is_hart s.machine h.0 && may_take s h.0) _ _ (and_second (is_hart s.machine h.0) (may_take s h.0) still)

no_instruction : (s : State) (h : Hart) → is_gathered s.mode h.0 ≡ true → owes s.mode h.0 ≡ false → does s (Instr h) ≡ None
unfolding does
no_instruction s h e owes_not =
    let still : may_run s h.0 ≡ false = and_first (runs s.mode s.machine.opened h.0) _ (runs_not s.mode s.machine.opened h.0 e) in
    let no_pass : may_pass s h.0 ≡ false = and_first (owes s.mode h.0) _ owes_not in
    cond_false (is_hart s.machine h.0 && (may_run s h.0 || may_pass s h.0)) _ _ (neither (is_hart s.machine h.0) (may_run s h.0) (may_pass s h.0) still no_pass)
  where
    neither : (a b c : Bool) → b ≡ false → c ≡ false → (a && (b || c)) ≡ false
    neither a b c p q = rw (p, q) (and_false a)

-- each hart that is held stands still
pub gathered_harts_stand : GatheredHartsStand
gathered_harts_stand s h e = record {
  takes_nothing = no_interrupt s h e;
  opens_nothing = no_session s h h.0 e;
  executes_nothing = λ f. no_instruction s h e f;
}

-- the harts are the same
same_harts : (s t : Machine) (g : ℕ) → t.seen.harts ≡ s.seen.harts → IsUnmoved (context_at s g) (context_at t g)
same_harts s t g e = IsUnmoved-same (context_at s g) (context_at t g) (ap (λ cs. context_of cs g) e)

other_than : (h g : ℕ) → eqb h g ≡ false → g ≢ h
other_than h g e = λ same. false≢true (sym e ∙ eq-eqb h g (sym same))

executed_unmoved : (s : Machine) (h g : ℕ) → eqb h g ≡ false → IsUnmoved (context_at s g) (context_at (executed s h) g)
unfolding executed
executed_unmoved s h g e = by_fetched (fetched_at s h) refl
  where
    by_fetched : (r : Result ℕ Fault) → fetched_at s h ≡ r → IsUnmoved (context_at s g) (context_at (executed s h) g)
    by_fetched (Ok word) f = rw f (keeps_others s.seen.harts s.seen.memory h word g (other_than h g e))
    by_fetched (Err fault) f = rw f (IsUnmoved-same (context_at s g) (context_at s g) refl)

keeps_instruction : (s : State) (k : Hart) (d : Done) → does s (Instr k) ≡ Some d → (h : ℕ) → eqb k.0 h ≡ false → IsUnmoved (context_at s.machine h) (context_at d.next.machine h)
unfolding does
keeps_instruction s k d e h other =
    let t = taken (is_hart s.machine k.0 && (may_run s k.0 || may_pass s k.0)) _ d e in
    rw (← t.1) (executed_unmoved s.machine k.0 h other)

keeps_interrupt : (s : State) (k : Hart) (d : Done) → does s (Intr k) ≡ Some d → (h : ℕ) → eqb k.0 h ≡ false → IsUnmoved (context_at s.machine h) (context_at d.next.machine h)
unfolding does
keeps_interrupt s k d e h other =
    let t = taken (is_hart s.machine k.0 && may_take s k.0) _ d e in
    rw (← t.1) (IsUnmoved-same (context_at s.machine h) (context_at (interrupted s.machine k.0) h) (interrupt_keeps s.machine.seen.harts k.0 h (other_than k.0 h other)))

held_harts : (s : State) (m : Hart) (late : ℕ) (r : Option Reason) (d : Done) → held_for s m late r ≡ Some d → d.next.machine.seen.harts ≡ s.machine.seen.harts
held_harts s m late None d e = absurd (cc)
held_harts s m late (Some reason) d e = let f : _ ≡ d = some_inner _ d e in rw (← f) refl
  where
    some_inner : (x y : Done) → Some x ≡ Some y → x ≡ y
    some_inner x y e = cc

enter_harts : (s : State) (m : Hart) (late : ℕ) (d : Done) → does s (Enter m late) ≡ Some d → d.next.machine.seen.harts ≡ s.machine.seen.harts
unfolding does
enter_harts s m late d e =
    by_test (can_be_late s m late) e
  where
    by_test : (b : Bool) → cond b (held_for s m late (opening_reason s.mode s.machine m.0 late)) None ≡ Some d → d.next.machine.seen.harts ≡ s.machine.seen.harts
    by_test true f = held_harts s m late (opening_reason s.mode s.machine m.0 late) d f
    by_test false f = absurd (cc)

closed_harts : (mode : Mode) (s : Machine) (d : Done) → closed mode s ≡ Some d → d.next.machine.seen.harts ≡ s.seen.harts
closed_harts Free s d e = absurd (cc)
closed_harts (Hold m late) s d e = absurd (cc)
closed_harts (Pass m late again) s d e = absurd (cc)
closed_harts (Back m late) s d e = absurd (cc)
closed_harts (Leave m late) s d e = let f = (taken true _ d e).1 in rw (← f) refl
closed_harts (Over ending) s d e = absurd (cc)

end_harts : (s : State) (d : Done) → does s End ≡ Some d → d.next.machine.seen.harts ≡ s.machine.seen.harts
unfolding does
end_harts s d e = closed_harts s.mode s.machine d e

ended_harts : (s : State) (ending : Ending) (d : Done) → ended s ending ≡ Some d → d.next.machine.seen.harts ≡ s.machine.seen.harts
ended_harts s ending d e = let t = taken (is_free s.mode && is_true_ending s.machine ending) _ d e in rw (← t.1) refl

off_harts : (s : State) (ending : Ending) (d : Done) → does s (Off ending) ≡ Some d → d.next.machine.seen.harts ≡ s.machine.seen.harts
unfolding does
off_harts s ScriptEnd d e = let t = taken (holds_at_end s.mode s.machine.unread) _ d e in rw (← t.1) refl
off_harts s AllHalted d e = ended_harts s AllHalted d e
off_harts s StepLimit d e = ended_harts s StepLimit d e
off_harts s PlanEnd d e = absurd (cc)

-- every allowed step keeps the harts that are held
pub late_sessions_keep : LateSessionsKeepGatheredHarts
late_sessions_keep s (Instr k) d e = λ h. λ held. λ other. keeps_instruction s k d e h other
late_sessions_keep s (Intr k) d e = λ h. λ held. λ other. keeps_interrupt s k d e h other
late_sessions_keep s (Session m) d e = λ h. λ held. λ other. let none = no_session s m h held in absurd (cc)
late_sessions_keep s (Enter m late) d e = λ h. λ held. λ other. same_harts s.machine d.next.machine h (enter_harts s m late d e)
late_sessions_keep s Line d e = λ h. λ held. λ other. absurd (false≢true (sym other))
late_sessions_keep s End d e = λ h. λ held. λ other. same_harts s.machine d.next.machine h (end_harts s d e)
late_sessions_keep s (Off ending) d e = λ h. λ held. λ other. same_harts s.machine d.next.machine h (off_harts s ending d e)
