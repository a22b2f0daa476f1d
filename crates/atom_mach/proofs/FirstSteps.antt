-- A machine with one hart that isn't over has an allowed step, and each step leaves less to do.
use Rattle.std.proofs.Common.{◌≡◌, ℕ, ◌==◌, ◌&&◌, ◌||◌, Bool, true, false, not, cond, IsTrue, length, Option, Some, None, nat_lt, nat_le, option_map, refl, sym, ◌∙◌, arith}
use Rattle.std.proofs.lemmas.Bool.{false≢true}
use Rattle.std.proofs.lemmas.Bool.Decides.{nat_tests}
use Rattle.mach_base.specs.Machine.{Machine}
use Rattle.mach_base.specs.declared.event.Hart.{Hart}
use Rattle.mach_base.specs.declared.event.Fault.{Fault}
use Rattle.mach_base.specs.declared.event.Reason.{Reason}
use Rattle.mach_base.specs.declared.event.Reason.TheVariants.{Start, Step, Fault as FaultReason}
use Rattle.mach_base.specs.declared.event.Ending.TheVariants.{AllHalted, StepLimit}
use Rattle.hart_ctx.specs.Context.{start_context}
use Rattle.atom_mach.specs.declared.step.Mode.{Mode}
use Rattle.atom_mach.specs.declared.step.Mode.TheVariants.{Free, Hold, Pass, Back, Leave, Over}
use Rattle.atom_mach.specs.declared.step.AStep.TheVariants.{Instr, Intr, Session, Off}
use Rattle.atom_mach.specs.State.{State, context_at, Done}
use Rattle.atom_mach.specs.Traps.{trap, fault_of}
use Rattle.atom_mach.specs.Modes.{is_free, is_alone, ending_of}
use Rattle.atom_mach.specs.Session.{is_hart, opening_reason}
use Rattle.atom_mach.specs.Step.{does, may_run, may_pass, may_take, opened_for, all_halted}
use Rattle.atom_mach.specs.Run.{first_allowed}
use Rattle.trap_ipi.specs.Interrupt.{is_takeable}
use Rattle.atom_mach.proofs.Booleans.{cond_true, and_true}
use Rattle.atom_mach.proofs.Steps.{all_halted-one}

abbrev h0 : Hart
h0 = record { 0 = 0 }

-- Which step comes first.

pub first_allowed-Intr : (s : State) (d : Done) → does s (Intr h0) ≡ Some d → first_allowed s ≡ Some (Intr h0)
unfolding first_allowed
first_allowed-Intr s d e = rw e refl

pub first_allowed-Session : (s : State) (d : Done) → does s (Intr h0) ≡ None → does s (Session h0) ≡ Some d → first_allowed s ≡ Some (Session h0)
unfolding first_allowed
first_allowed-Session s d a e = rw (a, e) refl

pub first_allowed-Instr : (s : State) (d : Done) → does s (Intr h0) ≡ None → does s (Session h0) ≡ None → does s (Instr h0) ≡ Some d → first_allowed s ≡ Some (Instr h0)
unfolding first_allowed
first_allowed-Instr s d a b e = rw (a, b, e) refl

pub first_allowed-AllHalted : (s : State) (d : Done) → does s (Intr h0) ≡ None → does s (Session h0) ≡ None → does s (Instr h0) ≡ None → does s (Off AllHalted) ≡ Some d → first_allowed s ≡ Some (Off AllHalted)
unfolding first_allowed
first_allowed-AllHalted s d a b c e = rw (a, b, c, e) refl

pub first_allowed-StepLimit : (s : State) (d : Done) → does s (Intr h0) ≡ None → does s (Session h0) ≡ None → does s (Instr h0) ≡ None → does s (Off AllHalted) ≡ None → does s (Off StepLimit) ≡ Some d → first_allowed s ≡ Some (Off StepLimit)
unfolding first_allowed
first_allowed-StepLimit s d a b c f e = rw (a, b, c, f, e) refl

-- Some step is allowed.

refused : {A : Type 0} (b : Bool) (d : A) → cond b (Some d) None ≡ None → b ≡ false
refused true d e = absurd (cc)
refused false d e = refl

opened_none : (s : State) (m : Hart) (r : Option Reason) → opened_for s m r ≡ None → r ≡ None
opened_none s m None e = refl
opened_none s m (Some r) e = absurd (cc)

one_is : (n : ℕ) → n ≡ 1 → nat_lt 0 n ≡ true
one_is n e = rw e refl

after_true : (a b : Bool) → a ≡ true → (a && b) ≡ false → b ≡ false
after_true true b e f = f
after_true false b e f = absurd (false≢true e)

no_session : (s : State) → length s.machine.seen.harts ≡ 1 → does s (Session h0) ≡ None → opening_reason s.mode s.machine 0 0 ≡ None
unfolding does
no_session s one e = opened_none s h0 _ (sym (cond_true (is_hart s.machine 0) (opened_for s h0 (opening_reason s.mode s.machine 0 0)) None (one_is (length s.machine.seen.harts) one)) ∙ e)

no_intr : (s : State) → length s.machine.seen.harts ≡ 1 → does s (Intr h0) ≡ None → may_take s 0 ≡ false
unfolding does
no_intr s one e = after_true (is_hart s.machine 0) (may_take s 0) (one_is (length s.machine.seen.harts) one) (refused (is_hart s.machine 0 && may_take s 0) _ e)

no_instr : (s : State) → length s.machine.seen.harts ≡ 1 → does s (Instr h0) ≡ None → (may_run s 0 || may_pass s 0) ≡ false
unfolding does
no_instr s one e = after_true (is_hart s.machine 0) (may_run s 0 || may_pass s 0) (one_is (length s.machine.seen.harts) one) (refused (is_hart s.machine 0 && (may_run s 0 || may_pass s 0)) _ e)

or_false : (a b : Bool) → (a || b) ≡ false → (a ≡ false) × (b ≡ false)
or_false true b e = absurd (false≢true (sym e))
or_false false b e = (refl, e)

no_fault : (o : Option Fault) → option_map FaultReason o ≡ None → o ≡ None
no_fault None e = refl
no_fault (Some f) e = absurd (cc)

-- the facts of a free machine that has no step, as tests
stuck_tests : (opened halted takeable below above : Bool) → opened ≡ true → above ≡ not below → (opened && (takeable && below)) ≡ false → (opened && (not halted && (not takeable && (below && true)))) ≡ false → halted ≡ false → (not halted && above) ≡ false → ⊥
stuck_tests true true takeable below above o a t r h l = false≢true (sym h)
stuck_tests true false true true above o a t r h l = false≢true (sym t)
stuck_tests true false true false above o a t r h l = false≢true (sym (rw a at l))
stuck_tests true false false true above o a t r h l = false≢true (sym r)
stuck_tests true false false false above o a t r h l = false≢true (sym (rw a at l))
stuck_tests false halted takeable below above o a t r h l = false≢true o

halted_none : (s : State) → does s (Off AllHalted) ≡ None → s.mode ≡ Free → all_halted s.machine.seen.harts ≡ false
unfolding does
halted_none s e free = rw free at (refused (is_free s.mode && all_halted s.machine.seen.harts) _ e)

limit_none : (s : State) → does s (Off StepLimit) ≡ None → s.mode ≡ Free → (not (all_halted s.machine.seen.harts) && nat_le s.machine.limit s.machine.steps) ≡ false
unfolding does
limit_none s e free = rw free at (refused (is_free s.mode && (not (all_halted s.machine.seen.harts) && nat_le s.machine.limit s.machine.steps)) _ e)

opened_of_trap : (opened : Bool) (r : Option Reason) → cond (not opened && true) (Some Start) r ≡ None → opened ≡ true
opened_of_trap true r e = refl
opened_of_trap false r e = absurd (cc)

trap-opened : (s : Machine) → trap s 0 ≡ None → s.opened ≡ true
unfolding trap
trap-opened s e = opened_of_trap s.opened _ e

above_is : (limit steps : ℕ) → nat_le limit steps ≡ not (nat_lt steps limit)
above_is limit steps = grind (arith, nat_tests)

free_moves : (s : State) → s.mode ≡ Free → length s.machine.seen.harts ≡ 1 → does s (Intr h0) ≡ None → does s (Session h0) ≡ None → does s (Instr h0) ≡ None → does s (Off AllHalted) ≡ None → does s (Off StepLimit) ≡ None → ⊥
free_moves s free one a b c f g =
    let no_trap : trap s.machine 0 ≡ None = rw free at (no_session s one b) in
    let halted_is = all_halted-one s.machine.seen.harts (start_context 0 0) one in
    let take = rw free at (no_intr s one a) in
    let run = rw (free, no_trap) at ((or_false (may_run s 0) (may_pass s 0) (no_instr s one c)).0) in
    stuck_tests s.machine.opened (context_at s.machine 0).halted (is_takeable (context_at s.machine 0)) (nat_lt s.machine.steps s.machine.limit) (nat_le s.machine.limit s.machine.steps)
    (trap-opened s.machine no_trap) (above_is s.machine.limit s.machine.steps) take run
    (sym halted_is ∙ halted_none s f free) (rw halted_is at (limit_none s g free))

pass_moves : (s : State) (m : Hart) (late : ℕ) (again : Bool) → s.mode ≡ Pass m late again → ((m.0 == 0) && (late == 0)) ≡ true → length s.machine.seen.harts ≡ 1 → does s (Session h0) ≡ None → does s (Instr h0) ≡ None → ⊥
pass_moves s m late again mode alone one b c =
    let none = rw (mode, alone) at (no_session s one b) in
    let no_fault_is : fault_of s.machine 0 ≡ None = no_fault (fault_of s.machine 0) none in
    let passes = rw (mode, (and_true (m.0 == 0) (late == 0) alone).0, no_fault_is) at ((or_false (may_run s 0) (may_pass s 0) (no_instr s one c)).1) in
    false≢true (sym passes)

back_moves : (s : State) (m : Hart) (late : ℕ) → s.mode ≡ Back m late → ((m.0 == 0) && (late == 0)) ≡ true → length s.machine.seen.harts ≡ 1 → does s (Session h0) ≡ None → ⊥
back_moves s m late mode alone one b =
    let none : ◌≡◌ {A = Option Reason} (Some Step) None = rw (mode, alone) at (no_session s one b) in
    cc

moves : (s : State) (mode : Mode) → s.mode ≡ mode → is_alone mode ≡ true → ending_of mode ≡ None → length s.machine.seen.harts ≡ 1 → does s (Intr h0) ≡ None → does s (Session h0) ≡ None → does s (Instr h0) ≡ None → does s (Off AllHalted) ≡ None → does s (Off StepLimit) ≡ None → ⊥
moves s Free e h r one a b c f g = free_moves s e one a b c f g
moves s (Hold m late) e h r one a b c f g = false≢true h
moves s (Pass m late again) e h r one a b c f g = pass_moves s m late again e h one b c
moves s (Back m late) e h r one a b c f g = back_moves s m late e h one b
moves s (Leave m late) e h r one a b c f g = false≢true h
moves s (Over ending) e h r one a b c f g = cc

-- a machine with one hart that isn't over can move
pub some_allowed : (s : State) → length s.machine.seen.harts ≡ 1 → IsTrue (is_alone s.mode) → ending_of s.mode ≡ None → does s (Intr h0) ≡ None → does s (Session h0) ≡ None → does s (Instr h0) ≡ None → does s (Off AllHalted) ≡ None → does s (Off StepLimit) ≡ None → ⊥
some_allowed s one alone running a b c f g = moves s s.mode refl alone running one a b c f g
