-- What holds where a hart may execute, take its interrupt, be called or take its call.
use Rattle.std.proofs.Common.{◌≡◌, ℕ, ◌+◌, ◌<◌, ◌≤◌, ◌&&◌, ◌||◌, Bool, true, false, not, cond, Option, Some, None, option_map, refl, arith}
use Rattle.std.proofs.lemmas.Bool.{false≢true, ltb-true}
use Rattle.mach_base.specs.declared.event.Hart.{Hart}
use Rattle.mach_base.specs.declared.event.Entry.TheVariants.{Step, Intr, Send, Take}
use Rattle.trap_ipi.specs.Interrupt.{is_takeable}
use Rattle.deck_core.specs.declared.plain.notes.Sitting.{Sitting}
use Rattle.deck_core.specs.declared.plain.notes.Stage.{Stage}
use Rattle.deck_core.specs.declared.plain.notes.Stage.TheVariants as stage
use Rattle.deck_core.specs.contract.Allowed.{in_session, is_of, is_pass}
use Rattle.atom_mach.specs.State.{hart_count, context_at}
use Rattle.atom_mach.specs.Traps.{fault_of}
use Rattle.atom_mach.specs.Session.{is_hart}
use Rattle.atom_mach.proofs.Booleans.{and_true, not_is, is_some-None, either_case}
use Rattle.plant_mach.specs.Machine.{PlantedMachine, is_held}
use Rattle.plant_mach.specs.Entries.{may_run, may_pass, faults, after_pass, after_step, is_called, may}
use Rattle.bus_core.specs.Seated.{owed_at, owed}

pub there : (p : PlantedMachine) (h : ℕ) → is_hart p.machine h ≡ true → h < hart_count p.machine
there p h e = ltb-true h (hart_count p.machine) e

-- Steps that are owed.

owed_stage : (s : Stage) → owed_at (after_pass s) ≤ owed_at s
owed_stage stage.Lines = omega arith
owed_stage (stage.Pass true) = omega arith
owed_stage (stage.Pass false) = omega arith
owed_stage stage.Back = omega arith
owed_stage stage.Leaving = omega arith

owed_by : (b : Bool) (s : Sitting) → owed_at (cond b (record s { stage = after_pass s.stage }) s).stage ≤ owed_at s.stage
owed_by true s = owed_stage s.stage
owed_by false s = omega arith

-- an instruction owes no more
owed_after : (h : ℕ) (session : Option Sitting) → owed (option_map (after_step h) session) ≤ owed session
owed_after h None = omega arith
owed_after h (Some s) = owed_by (is_of h s) s

pass_made : (b : Bool) (s : Sitting) (st : Stage) → s.stage ≡ st → (b && is_pass st) ≡ true → owed_at (cond b (record s { stage = after_pass st }) s).stage + 1 ≤ owed_at st
pass_made true s (stage.Pass true) is e = omega arith
pass_made true s (stage.Pass false) is e = omega arith
pass_made true s stage.Lines is e = absurd (false≢true e)
pass_made true s stage.Back is e = absurd (false≢true e)
pass_made true s stage.Leaving is e = absurd (false≢true e)
pass_made false s st is e = absurd (false≢true e)

-- the step of a pass is no more owed once it is made
pass_after : (h : ℕ) (session : Option Sitting) → in_session (λ s. is_of h s && is_pass s.stage) session ≡ true → owed (option_map (after_step h) session) + 1 ≤ owed session
pass_after h None e = absurd (false≢true e)
pass_after h (Some s) e = pass_made (is_of h s) s s.stage refl e

-- Where a hart may execute.

-- it is there, its instruction doesn't fault, and the steps stay bounded
pub record IsStep (p : PlantedMachine) (h : ℕ) : Type 0 where
  pub there : h < hart_count p.machine
  pub right : fault_of p.machine h ≡ None
  pub room : (limit read : ℕ) → p.machine.limit ≡ limit → p.machine.steps + owed p.session ≤ limit + read → owed p.session ≤ read → p.machine.steps + 1 + owed (option_map (after_step h) p.session) ≤ limit + read

by_running : (p : PlantedMachine) (h : ℕ) → h < hart_count p.machine → may_run p h ≡ true → IsStep p h
by_running p h lt e =
    let a = and_true (not (is_held p h)) _ e in
    let b = and_true _ _ a.1 in
    let c = and_true (not (is_takeable (context_at p.machine h))) _ b.1 in
    let d = and_true _ (not (faults p h)) c.1 in
    let below : p.machine.steps < p.machine.limit = ltb-true p.machine.steps p.machine.limit b.0 in
    record {
      there = lt;
      right = is_some-None (fault_of p.machine h) (not_is (faults p h) d.1);
      room = λ limit read same bounded lines. let less = owed_after h p.session in omega arith;
    }

by_passing : (p : PlantedMachine) (h : ℕ) → h < hart_count p.machine → may_pass p h ≡ true → IsStep p h
by_passing p h lt e =
    let a = and_true (in_session (λ s. is_of h s && is_pass s.stage) p.session) _ e in
    let b = and_true (not (faults p h)) _ a.1 in
    record {
      there = lt;
      right = is_some-None (fault_of p.machine h) (not_is (faults p h) b.0);
      room = λ limit read same bounded lines. let less = pass_after h p.session a.0 in omega arith;
    }

pub step_facts : (p : PlantedMachine) (h : Hart) → may p (Step h) ≡ true → IsStep p h.0
unfolding may
step_facts p h e =
    let a = and_true (is_hart p.machine h.0) _ e in
    let b = and_true p.machine.opened _ a.1 in
    let c = and_true (not (context_at p.machine h.0).halted) _ b.1 in
    let lt = there p h.0 a.0 in
    either_case (may_run p h.0) (may_pass p h.0) c.1 (by_running p h.0 lt) (by_passing p h.0 lt)

-- Where a hart may take its interrupt.

-- it is there and has one, and the limit isn't reached
pub record IsInterrupt (p : PlantedMachine) (h : ℕ) : Type 0 where
  pub there : h < hart_count p.machine
  pub takeable : is_takeable (context_at p.machine h) ≡ true
  pub below : p.machine.steps < p.machine.limit

pub interrupt_facts : (p : PlantedMachine) (h : Hart) → may p (Intr h) ≡ true → IsInterrupt p h.0
unfolding may
interrupt_facts p h e =
    let a = and_true (is_hart p.machine h.0) _ e in
    let b = and_true p.machine.opened _ a.1 in
    let c = and_true (not (is_held p h.0)) _ b.1 in
    let d = and_true (is_takeable (context_at p.machine h.0)) _ c.1 in
    record { there = there p h.0 a.0; takeable = d.0; below = ltb-true p.machine.steps p.machine.limit d.1 }

-- Calls.

pub send_there : (p : PlantedMachine) (h : Hart) → may p (Send h) ≡ true → h.0 < hart_count p.machine
unfolding may
send_there p h e = there p h.0 (and_true (is_hart p.machine h.0) _ e).0

pub take_there : (p : PlantedMachine) (h : Hart) → may p (Take h) ≡ true → h.0 < hart_count p.machine
unfolding may
take_there p h e = there p h.0 (and_true (is_hart p.machine h.0) _ e).0
