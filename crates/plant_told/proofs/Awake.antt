-- The master of a session in a single-step pass isn't halted.
use Rattle.std.proofs.Common.{◌≡◌, ◌≢◌, ℕ, eqb, ◌==◌, ◌&&◌, Bool, true, false, not, cond, List, [], ◌∷◌, Option, Some, None, is_none, Result, Ok, Err, option_map, refl, sym, ap, subst, ◌∙◌, ◌⊎◌, inl, inr, ◌<◌, ◌≤◌, length, arith}
use Rattle.std.specs.Prelude.{slice_set}
use Rattle.std.proofs.lemmas.List.{get_or-set_same, get_or_past, length-set}
use Rattle.std.proofs.lemmas.Bool.{false≢true, eqb-true, eqb-false, cases_eq, cases_lt}
use Rattle.mach_base.specs.Machine.{Context, Machine}
use Rattle.mach_base.specs.Masks.{all_but}
use Rattle.mach_base.specs.declared.event.Hart.{Hart}
use Rattle.mach_base.specs.declared.event.Reason.{Reason}
use Rattle.mach_base.specs.declared.event.Reason.TheVariants.{Start}
use Rattle.mach_base.specs.declared.event.Entry.{Entry}
use Rattle.mach_base.specs.declared.event.Entry.TheVariants.{Step, Intr, Send, Take, Open, Pull, Line, Plant, PlantStep, PullStep, Close, Off}
use Rattle.hart_ctx.specs.Context.{start_context}
use Rattle.trap_ipi.specs.Interrupt.{after_interrupt}
use Rattle.kdb_cmd.specs.declared.outcomes.Outcome.{Outcome}
use Rattle.kdb_cmd.specs.declared.outcomes.Outcome.TheVariants as outcome
use Rattle.kdb_cmd.specs.Line.{line_said}
use Rattle.kdb_cmd.proofs.Steps.{line_steps}
use Rattle.deck_core.specs.declared.plain.notes.Sitting.{Sitting}
use Rattle.deck_core.specs.declared.plain.notes.Stage.{Stage}
use Rattle.deck_core.specs.declared.plain.notes.Stage.TheVariants as stage
use Rattle.deck_core.specs.contract.Allowed.{is_of}
use Rattle.atom_mach.specs.declared.step.Mode.{Mode}
use Rattle.atom_mach.specs.declared.step.Mode.TheVariants as mode
use Rattle.atom_mach.specs.State.{hart_count, context_at}
use Rattle.atom_mach.specs.Traps.{trap, trap_of, trap_of_fetched, breakpoint_or, fetched_at, fault_of, executed, interrupted}
use Rattle.atom_mach.specs.Session.{with_read, line_effect, mode_left, stops_again}
use Rattle.atom_mach.proofs.Booleans.{and_true, taken}
use Rattle.atom_mach.proofs.Frame.{instructions_leave, interrupts_leave}
use Rattle.kdb_bp.specs.Breaks.{first_enabled}
use Rattle.plant_mach.specs.Machine.{PlantedMachine}
use Rattle.plant_mach.specs.Entries.{Made, after_pass, after_step, stage_after, line_made, read_in, opened_for, reason_now, may, effect, makes}
use Rattle.plant_mach.specs.Order.{IsOrderly, SessionFits}
use Rattle.plant_mach.proofs.Executes.{step-right}
use Rattle.plant_told.specs.Laws.{IsAwakeAt, IsAwake, EntriesLeaveAwake}

-- a stage asks it of a context that isn't halted, and of one that is as it was
awake-at : (g : Stage) (halted : Bool) → halted ≡ false → IsAwakeAt g halted
awake-at stage.Lines halted e = tt
awake-at (stage.Pass again) halted e = e
awake-at stage.Back halted e = tt
awake-at stage.Leaving halted e = tt

awake-kept : (g : Stage) (before now : Bool) → now ≡ before → IsAwakeAt g before → IsAwakeAt g now
awake-kept g before now e is = subst (IsAwakeAt g) (sym e) is

-- another hart's change leaves it
awake-left : (session : Option Sitting) (s t : Machine) → ((m : ℕ) → (context_at t m).halted ≡ (context_at s m).halted) → IsAwake session s → IsAwake session t
awake-left None s t same is = tt
awake-left (Some x) s t same is = awake-kept x.stage _ _ (same x.master.0) is

-- Instructions and interrupts.

passed-awake : (g : Stage) (halted : Bool) → IsAwakeAt (after_pass g) halted
passed-awake stage.Lines halted = tt
passed-awake (stage.Pass true) halted = tt
passed-awake (stage.Pass false) halted = tt
passed-awake stage.Back halted = tt
passed-awake stage.Leaving halted = tt

step-awake : (session : Option Sitting) (s : Machine) (h : ℕ) → fault_of s h ≡ None → IsAwake session s → IsAwake (option_map (after_step h) session) (executed s h)
step-awake None s h right is = tt
step-awake (Some x) s h right is = by_master (is_of h x) refl
  where
    by_master : (b : Bool) → is_of h x ≡ b → IsAwake (Some (cond b (record x { stage = after_pass x.stage }) x)) (executed s h)
    by_master true f = passed-awake x.stage _
    by_master false f =
        let left = instructions_leave s h x.master.0 (eqb-false x.master.0 h f) right in
        awake-kept x.stage _ _ (ap (λ (c : Context). c.halted) left.context.same) is

-- an interrupt halts nobody
interrupt-halted : (s : Machine) (h m : ℕ) → (context_at (interrupted s h) m).halted ≡ (context_at s m).halted
interrupt-halted s h m = by_number (cases_eq m h)
  where
    same_hart : (h < length s.seen.harts) ⊎ (length s.seen.harts ≤ h) → (context_at (interrupted s h) h).halted ≡ (context_at s h).halted
    same_hart (inl lt) = ap (λ (c : Context). c.halted) (get_or-set_same s.seen.harts h (after_interrupt (context_at s h)) (start_context 0 0) lt)
    same_hart (inr ge) = ap (λ (c : Context). c.halted) (get_or_past (slice_set s.seen.harts h (after_interrupt (context_at s h))) h (start_context 0 0) (let long = length-set s.seen.harts h (after_interrupt (context_at s h)) in omega arith) ∙ sym (get_or_past s.seen.harts h (start_context 0 0) ge))

    by_number : (m ≡ h) ⊎ (m ≡ h → ⊥) → (context_at (interrupted s h) m).halted ≡ (context_at s m).halted
    by_number (inl e) = ap (λ k. (context_at (interrupted s h) k).halted) e ∙ same_hart (cases_lt h (length s.seen.harts)) ∙ ap (λ k. (context_at s k).halted) (sym e)
    by_number (inr ne) = ap (λ (c : Context). c.halted) (interrupts_leave s h m ne).context.same

-- Lines.

not_start : (b : Bool) (r : Option Reason) → stops_again (cond b (Some Start) r) ≡ true → stops_again r ≡ true
not_start true r e = absurd (false≢true e)
not_start false r e = e

not_halted : (b : Bool) (r : Option Reason) → stops_again (cond b None r) ≡ true → b ≡ false
not_halted true r e = absurd (false≢true e)
not_halted false r e = refl

-- a hart that would stop at once isn't halted
stops-awake : (s : Machine) (m : ℕ) → stops_again (trap s m) ≡ true → (context_at s m).halted ≡ false
unfolding trap
stops-awake s m e = not_halted (context_at s m).halted _ (not_start (not s.opened && (eqb m 0)) _ e)

left-awake : (m : Hart) (late : ℕ) (s : Machine) (o : Outcome) → (o ≡ outcome.Step → (context_at s m.0).halted ≡ false) → IsAwakeAt (stage_after (mode_left o s m late)) (context_at s m.0).halted
left-awake m late s outcome.Stay steps = tt
left-awake m late s outcome.Go steps = by_stop (stops_again (trap s m.0)) refl
  where
    by_late : (c : Bool) → IsAwakeAt (stage_after (Some (cond c mode.Free (mode.Leave m late)))) (context_at s m.0).halted
    by_late true = tt
    by_late false = tt

    by_stop : (b : Bool) → stops_again (trap s m.0) ≡ b → IsAwakeAt (stage_after (Some (cond b (mode.Pass m late false) (cond (eqb late 0) mode.Free (mode.Leave m late))))) (context_at s m.0).halted
    by_stop true e = stops-awake s m.0 e
    by_stop false e = by_late (eqb late 0)
left-awake m late s outcome.Step steps = steps refl

line-awake : (m : Hart) (late : ℕ) (line : List ℕ) (s : Machine) → IsAwakeAt (stage_after (line_effect m late line s).left) (context_at (line_effect m late line s).machine m.0).halted
unfolding line_effect
line-awake m late line s =
    let answer = line_said (all_but (hart_count s) late) m.0 line s.seen in
    left-awake m late (record s { seen = answer.state }) answer.outcome (line_steps (all_but (hart_count s) late) m.0 line s.seen)

read-awake : (session : Option Sitting) (unread : List (List ℕ)) (p : PlantedMachine) → IsAwake p.session p.machine → IsAwake (read_in session unread p).next.session (read_in session unread p).next.machine
read-awake None [] p is = is
read-awake None (line ∷ rest) p is = is
read-awake (Some s) [] p is = is
read-awake (Some s) (line ∷ rest) p is = line-awake s.master s.late line (with_read p.machine rest)

opened-awake : (p : PlantedMachine) (m : Hart) (late : ℕ) (o : Option Reason) → IsAwake p.session p.machine → IsAwake (opened_for p m late o).next.session (opened_for p m late o).next.machine
opened-awake p m late None is = is
opened-awake p m late (Some why) is = tt

-- Entries.

effect-awake : (p : PlantedMachine) (e : Entry) → IsOrderly p → may p e ≡ true → IsAwake p.session p.machine → IsAwake (effect p e).next.session (effect p e).next.machine
unfolding effect
effect-awake p (Step h) o e is = step-awake p.session p.machine h.0 (step-right p h e) is
effect-awake p (Intr h) o e is = awake-left p.session p.machine (interrupted p.machine h.0) (interrupt-halted p.machine h.0) is
effect-awake p (Send h) o e is = is
effect-awake p (Take h) o e is = is
effect-awake p (Open m late) o e is = opened-awake p m late (reason_now p m.0 late) is
effect-awake p (Pull i) o e is = is
effect-awake p (Line h) o e is = read-awake p.session p.machine.unread p is
effect-awake p (Plant i) o e is = is
effect-awake p (PlantStep addr) o e is = is
effect-awake p PullStep o e is = is
effect-awake p (Close h) o e is = tt
effect-awake p (Off ending) o e is = is

pub entries_leave_awake : EntriesLeaveAwake
unfolding makes
entries_leave_awake p e d o is made =
    let t = taken (is_none p.ending && may p e) (effect p e) d made in
    subst (λ (x : Made). IsAwake x.next.session x.next.machine) t.1 (effect-awake p e o (and_true (is_none p.ending) (may p e) t.0).1 is)
