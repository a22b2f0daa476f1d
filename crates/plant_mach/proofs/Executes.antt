-- Instructions and interrupts of the planted machine are those of the atomic one.
use Rattle.std.proofs.Common.{◌≡◌, ℕ, eqb, ◌&&◌, ◌||◌, Bool, true, false, not, [], Option, Some, None, is_some, is_none, nat_lt, refl, ap, ◌∙◌}
use Rattle.std.proofs.lemmas.Bool.{false≢true}
use Rattle.mach_base.specs.declared.event.Hart.{Hart}
use Rattle.mach_base.specs.declared.event.Entry.TheVariants as entry
use Rattle.trap_ipi.specs.Interrupt.{is_takeable}
use Rattle.deck_core.specs.contract.Allowed.{in_session, is_of, is_pass}
use Rattle.bus_plant.specs.Laws.{RawFetches}
use Rattle.atom_mach.specs.declared.step.Mode.{Mode}
use Rattle.atom_mach.specs.declared.step.Mode.TheVariants.{Pass}
use Rattle.atom_mach.specs.declared.step.AStep.TheVariants.{Instr, Intr}
use Rattle.atom_mach.specs.State.{State, context_at}
use Rattle.atom_mach.specs.Traps.{fault_of, executed, console_text, interrupted}
use Rattle.atom_mach.specs.Modes.{runs, mode_after}
use Rattle.atom_mach.specs.Session.{is_hart}
use Rattle.atom_mach.specs.Step.{may_run, may_pass, may_take, trap_in, does}
use Rattle.atom_mach.proofs.Booleans.{cond_true, and_true, both, not_is, either_case}
use Rattle.plant_mach.specs.Machine.{PlantedMachine, is_held, mode_at, mode_in_session}
use Rattle.plant_mach.specs.Entries.{raw_fetched, is_ebreak, faults, may_run as may_run_here, may_pass as may_pass_here, may}
use Rattle.plant_mach.specs.Order.{IsOrderly}
use Rattle.plant_mach.proofs.Sessions.{in_session-open, is_pass-Pass}
use Rattle.plant_mach.proofs.Settled.{done_as}
use Rattle.plant_mach.proofs.Shown.{not_held-shown}
use Rattle.plant_mach.proofs.Fetched.{no_ebreak, no_trap, no_breakpoint, no_trap-free, no_trap-late}

-- a step of the atomic machine in the mode that is shown
pub record IsExecuted (p : PlantedMachine) (h : Hart) : Type 0 where
  pub mode : Mode
  pub shown : mode_in_session p.session ≡ Some mode
  pub done : does (record { machine = p.machine; mode = mode }) (Instr h) ≡ Some (done_as (console_text p.machine h.0) (executed p.machine h.0) (mode_after mode h.0))

either_first : (a b : Bool) → a ≡ true → (a || b) ≡ true
either_first a b p = rw p refl

either_second : (a b : Bool) → b ≡ true → (a || b) ≡ true
either_second true b q = refl
either_second false b q = q

none_none : {A : Type 0} (o : Option A) → o ≡ None → is_none o ≡ true
none_none o e = rw e refl

not_some : {A : Type 0} (o : Option A) → not (is_some o) ≡ true → o ≡ None
not_some None e = refl
not_some (Some x) e = absurd (false≢true e)

instr-done : (s : State) (h : Hart) → is_hart s.machine h.0 ≡ true → (may_run s h.0 || may_pass s h.0) ≡ true → does s (Instr h) ≡ Some (done_as (console_text s.machine h.0) (executed s.machine h.0) (mode_after s.mode h.0))
unfolding does
instr-done s h there e = cond_true (is_hart s.machine h.0 && (may_run s h.0 || may_pass s h.0)) _ _ (both (is_hart s.machine h.0) _ there e)

-- the tests of an instruction
record Tests (p : PlantedMachine) (h : ℕ) : Type 0 where
  there : is_hart p.machine h ≡ true
  opened : p.machine.opened ≡ true
  awake : (context_at p.machine h).halted ≡ false

by_running : RawFetches → (p : PlantedMachine) (h : Hart) → IsOrderly p → Tests p h.0 → may_run_here p h.0 ≡ true → IsExecuted p h
by_running raw p h ordered t e =
    let s = p.machine in
    let c = context_at s h.0 in
    let a = and_true (not (is_held p h.0)) _ e in
    let b = and_true (nat_lt s.steps s.limit) _ a.1 in
    let d = and_true (not (is_takeable c)) _ b.1 in
    let f = and_true (not (is_ebreak (raw_fetched p h.0))) _ d.1 in
    let right : fault_of s h.0 ≡ None = not_some (fault_of s h.0) f.1 in
    let shown = not_held-shown p h.0 (not_is (is_held p h.0) a.0) in
    let word = no_ebreak raw p h.0 ordered.words (not_is (is_ebreak (raw_fetched p h.0)) f.0) in
    let quiet = no_trap s h.0 word.1 right in
    let free : p.session ≡ None → _ = λ none. no_trap-free s h.0 t.opened t.awake (no_breakpoint p c.pc (ordered.whole none) word.0) quiet in
    let trap = shown.traps s free (no_trap-late s h.0 t.opened t.awake quiet) in
    let run : may_run (record { machine = s; mode = shown.mode }) h.0 ≡ true =
    both (runs shown.mode s.opened h.0) _ (shown.runs_in s.opened t.opened)
    (both (not c.halted) _ (ap not t.awake) (both (not (is_takeable c)) _ d.0 (both (nat_lt s.steps s.limit) _ b.0 (none_none (trap_in shown.mode s h.0) trap)))) in
    record { mode = shown.mode; shown = shown.shown; done = instr-done (record { machine = s; mode = shown.mode }) h t.there (either_first _ _ run) }

by_passing : (p : PlantedMachine) (h : Hart) → Tests p h.0 → may_pass_here p h.0 ≡ true → IsExecuted p h
by_passing p h t e =
    let s = p.machine in
    let a = and_true (in_session (λ x. is_of h.0 x && is_pass x.stage) p.session) _ e in
    let found = in_session-open (λ x. is_of h.0 x && is_pass x.stage) p.session a.0 in
    let sitting = found.sitting in
    let own = and_true (is_of h.0 sitting) (is_pass sitting.stage) found.passes in
    let pass = is_pass-Pass sitting.stage own.1 in
    let b = and_true (not (faults p h.0)) _ a.1 in
    let right : fault_of s h.0 ≡ None = not_some (fault_of s h.0) b.0 in
    let mode = Pass sitting.master sitting.late pass.again in
    let shown : mode_in_session p.session ≡ Some mode = ap mode_in_session found.is ∙ ap (mode_at sitting.master sitting.late) pass.is in
    let step : may_pass (record { machine = s; mode = mode }) h.0 ≡ true = both (eqb sitting.master.0 h.0) (is_none (fault_of s h.0)) own.0 (none_none (fault_of s h.0) right) in
    record { mode = mode; shown = shown; done = instr-done (record { machine = s; mode = mode }) h t.there (either_second _ _ step) }

-- a legal step is an instruction
pub step-executed : RawFetches → (p : PlantedMachine) (h : Hart) → IsOrderly p → may p (entry.Step h) ≡ true → IsExecuted p h
unfolding may
step-executed raw p h ordered e =
    let a = and_true (is_hart p.machine h.0) _ e in
    let b = and_true p.machine.opened _ a.1 in
    let c = and_true (not (context_at p.machine h.0).halted) _ b.1 in
    let t : Tests p h.0 = record { there = a.0; opened = b.0; awake = not_is _ c.0 } in
    either_case (may_run_here p h.0) (may_pass_here p h.0) c.1 (by_running raw p h ordered t) (by_passing p h t)

-- the same of an interrupt
pub record IsInterrupted (p : PlantedMachine) (h : Hart) : Type 0 where
  pub mode : Mode
  pub shown : mode_in_session p.session ≡ Some mode
  pub done : does (record { machine = p.machine; mode = mode }) (Intr h) ≡ Some (done_as [] (interrupted p.machine h.0) mode)

intr-done : (s : State) (h : Hart) → is_hart s.machine h.0 ≡ true → may_take s h.0 ≡ true → does s (Intr h) ≡ Some (done_as [] (interrupted s.machine h.0) s.mode)
unfolding does
intr-done s h there e = cond_true (is_hart s.machine h.0 && may_take s h.0) _ _ (both (is_hart s.machine h.0) _ there e)

pub intr-interrupted : (p : PlantedMachine) (h : Hart) → may p (entry.Intr h) ≡ true → IsInterrupted p h
unfolding may
intr-interrupted p h e =
    let s = p.machine in
    let a = and_true (is_hart s h.0) _ e in
    let b = and_true s.opened _ a.1 in
    let c = and_true (not (is_held p h.0)) _ b.1 in
    let shown = not_held-shown p h.0 (not_is (is_held p h.0) c.0) in
    let take : may_take (record { machine = s; mode = shown.mode }) h.0 ≡ true = both (runs shown.mode s.opened h.0) _ (shown.runs_in s.opened b.0) c.1 in
    record { mode = shown.mode; shown = shown.shown; done = intr-done (record { machine = s; mode = shown.mode }) h a.0 take }

-- the instruction of a legal step doesn't fault
pub step-right : (p : PlantedMachine) (h : Hart) → may p (entry.Step h) ≡ true → fault_of p.machine h.0 ≡ None
unfolding may
step-right p h e =
    let a = and_true (is_hart p.machine h.0) _ e in
    let b = and_true p.machine.opened _ a.1 in
    let c = and_true (not (context_at p.machine h.0).halted) _ b.1 in
    either_case (may_run_here p h.0) (may_pass_here p h.0) c.1 running passing
  where
    running : may_run_here p h.0 ≡ true → fault_of p.machine h.0 ≡ None
    running f =
        let s = p.machine in
        let a = and_true (not (is_held p h.0)) _ f in
        let b = and_true (nat_lt s.steps s.limit) _ a.1 in
        let d = and_true (not (is_takeable (context_at s h.0))) _ b.1 in
        not_some (fault_of s h.0) (and_true (not (is_ebreak (raw_fetched p h.0))) _ d.1).1

    passing : may_pass_here p h.0 ≡ true → fault_of p.machine h.0 ≡ None
    passing f =
        let a = and_true (in_session (λ x. is_of h.0 x && is_pass x.stage) p.session) _ f in
        not_some (fault_of p.machine h.0) (and_true (not (faults p h.0)) _ a.1).0
