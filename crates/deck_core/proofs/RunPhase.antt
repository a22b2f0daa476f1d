-- The phase Run: the step of a hart outside a session changes nothing that the master relies on.
use Rattle.std.proofs.Common.{◌≡◌, ℕ, suc, zero, ◌≤◌, ◌==◌, ◌&&◌, Bool, true, false, not, refl, sym, ◌∙◌, ap, subst, inl, inr, arith, Option, Some, None}
use Rattle.std.proofs.lemmas.Bool.{ne_eqb, eqb-true, eqb-false, both_ways, and_parts, or_cases, or_left, or_right, false_from_ne_true}
use Rattle.mach_base.specs.Masks.{has_bit}
use Rattle.deck_core.specs.ticks.Phases.{is_masters, own_word, is_finished, KeepsOldNumber, holds, is_at_gate, late_of}
use Rattle.deck_core.specs.contract.Told.{Told, IsTold}
use Rattle.deck_core.specs.ticks.Configuration.{Configuration, lead_of}
use Rattle.deck_core.specs.contract.Calls.{HartStepGives, is_off}
use Rattle.deck_core.specs.contract.Allowed.{in_session, is_of}
use Rattle.deck_core.specs.ticks.NextPhase.{after_step, step_answer}
use Rattle.deck_core.specs.ticks.Tick.{gives}
use Rattle.deck_core.specs.Invariant.{Sound, LeadFits, Working, session_fits, stage_fits, StepFits, at_master, bit}
use Rattle.deck_core.specs.laws.Keeps.{KeepsIn}
use Rattle.deck_core.specs.declared.plain.notes.Sitting.{Sitting}
use Rattle.deck_core.specs.declared.plain.phase.Phase.{Phase}
use Rattle.deck_core.specs.declared.plain.phase.Phase.TheVariants as phase
use Rattle.deck_core.specs.declared.plain.act.Turned.{Turned}
use Rattle.deck_core.specs.declared.plain.act.Turned.TheVariants as turned
use Rattle.deck_core.proofs.Frame.{stays, other_gives}
use Rattle.deck_core.proofs.Transactions.{tick_at, call_keeps}
use Rattle.deck_core.proofs.Outside.{own_of, unmarked}

-- the session that fits the master's phase is not that of a hart that isn't the master
not_of : (m h : ℕ) (lead : Phase) (faults : ℕ) (session : Option Sitting) → (m == suc h) ≡ false → session_fits m lead faults session ≡ true → in_session (is_of h) session ≡ false
not_of m h lead faults None apart f = refl
not_of m h lead faults (Some sitting) apart f =
    let parts = and_parts ((m == suc sitting.master.0) && (sitting.late == late_of lead)) (stage_fits (has_bit faults sitting.master.0) lead sitting.stage) f in
    let same : m ≡ suc sitting.master.0 = eqb-true m (suc sitting.master.0) (and_parts (m == suc sitting.master.0) (sitting.late == late_of lead) parts.0).0 in
    ne_eqb sitting.master.0 h (λ e. eqb-false m (suc h) apart (same ∙ ap suc e))

-- the master's fault is the same
faults_stay : (m h : ℕ) (lead : Phase) (faults faults2 : ℕ) (session : Option Sitting) → (m == suc h) ≡ false → ((k : ℕ) → (k ≡ h → ⊥) → has_bit faults2 k ≡ has_bit faults k) → session_fits m lead faults session ≡ true → session_fits m lead faults2 session ≡ true
faults_stay m h lead faults faults2 None apart same f = f
faults_stay m h lead faults faults2 (Some sitting) apart same f =
    let parts = and_parts ((m == suc sitting.master.0) && (sitting.late == late_of lead)) (stage_fits (has_bit faults sitting.master.0) lead sitting.stage) f in
    let master : m ≡ suc sitting.master.0 = eqb-true m (suc sitting.master.0) (and_parts (m == suc sitting.master.0) (sitting.late == late_of lead) parts.0).0 in
    let e : has_bit faults2 sitting.master.0 ≡ has_bit faults sitting.master.0 = same sitting.master.0 (λ x. eqb-false m (suc h) apart (master ∙ ap suc x)) in
    subst (λ b. (((m == suc sitting.master.0) && (sitting.late == late_of lead)) && stage_fits b lead sitting.stage) ≡ true) (sym e) f

at_master_stays : (m h traps traps2 : ℕ) → (m == suc h) ≡ false → ((k : ℕ) → (k ≡ h → ⊥) → has_bit traps2 k ≡ has_bit traps k) → at_master m (has_bit traps2) ≡ at_master m (has_bit traps)
at_master_stays zero h traps traps2 apart same = refl
at_master_stays (suc k) h traps traps2 apart same = same k (λ e. eqb-false (suc k) (suc h) apart (ap suc e))

bit_grows : (over over2 at_gate : Bool) → (over ≡ true → over2 ≡ true) → bit (over && at_gate) ≤ bit (over2 && at_gate)
bit_grows false over2 at_gate o = omega arith
bit_grows true over2 at_gate o = subst (λ x. bit (true && at_gate) ≤ bit (x && at_gate)) (sym (o refl)) (omega arith)

-- the step of a hart that isn't the master leaves what holds of the master
lead_stays : (limit m gate : ℕ) (lead : Phase) (b : Told) (h : ℕ) (over : Bool) (traps faults : ℕ) (next : Option ℕ) (plantable : Bool) → (m == suc h) ≡ false → (b.over ≡ true → over ≡ true) → ((k : ℕ) → (k ≡ h → ⊥) → has_bit traps k ≡ has_bit b.traps k) → ((k : ℕ) → (k ≡ h → ⊥) → has_bit faults k ≡ has_bit b.faults k) → (in_session (is_of h) b.session ≡ false → next ≡ b.next) → (in_session (is_of h) b.session ≡ false → plantable ≡ b.plantable) → LeadFits limit m gate lead b → LeadFits limit m gate lead (record b { over = over; traps = traps; faults = faults; next = next; plantable = plantable })
lead_stays limit m gate lead b h over traps faults next plantable apart o same_traps same_faults same_next same_plantable f = record {
  range = f.range;
  low = f.low;
  parity = f.parity;
  mask = f.mask;
  trap = λ x. elim (or_cases b.over (at_master m (has_bit b.traps)) (f.trap x)) [
    | inl t ↦ or_left over (at_master m (has_bit traps)) (o t)
    | inr t ↦ or_right over (at_master m (has_bit traps)) (at_master_stays m h b.traps traps apart same_traps ∙ t)
  ];
  lines = omega (arith, f.lines, bit_grows b.over over (not (is_at_gate lead)) o);
  sends = f.sends;
  working = λ w.
      let g : Working m gate lead b = f.working (false_from_ne_true b.over (λ t. both_ways over w (o t))) in
      let out : in_session (is_of h) b.session ≡ false = not_of m h lead b.faults b.session apart g.session in
      record {
        session = faults_stay m h lead b.faults faults b.session apart same_faults g.session;
        planted = g.planted;
        step = subst (λ n. StepFits b.step n plantable b.stepped lead) (sym (same_next out))
            (subst (λ t. StepFits b.step b.next t b.stepped lead) (sym (same_plantable out)) g.step);
        read = g.read;
      };
}

after_step_is_no_masters : (r : Turned) → is_masters (after_step r) ≡ false
after_step_is_no_masters turned.Off = refl
after_step_is_no_masters turned.Called = refl
after_step_is_no_masters turned.Idle = refl
after_step_is_no_masters turned.Trapped = refl
after_step_is_no_masters turned.Took = refl
after_step_is_no_masters turned.Stepped = refl

after_step_has_no_number : (gate : ℕ) (r : Turned) → KeepsOldNumber gate (after_step r)
after_step_has_no_number gate turned.Off = tt
after_step_has_no_number gate turned.Called = tt
after_step_has_no_number gate turned.Idle = tt
after_step_has_no_number gate turned.Trapped = tt
after_step_has_no_number gate turned.Took = tt
after_step_has_no_number gate turned.Stepped = tt

after_step_is_out : (r : Turned) → 0 ≡ own_word (after_step r)
after_step_is_out turned.Off = refl
after_step_is_out turned.Called = refl
after_step_is_out turned.Idle = refl
after_step_is_out turned.Trapped = refl
after_step_is_out turned.Took = refl
after_step_is_out turned.Stepped = refl

after_step_finished : (r : Turned) → is_finished (after_step r) ≡ true → is_off r ≡ true
after_step_finished turned.Off e = refl
after_step_finished turned.Called e = e
after_step_finished turned.Idle e = e
after_step_finished turned.Trapped e = e
after_step_finished turned.Took e = e
after_step_finished turned.Stepped e = e

pub stepped : (c : Configuration) (h : ℕ) (r : Turned) (b : Told) → Sound c → c.phase h ≡ phase.Run → holds (c.place h) ≡ true → HartStepGives h c.told r b → IsTold b → Sound (gives h (after_step r) b c)
stepped c h r b s e held g fits =
    let apart : (c.master == suc h) ≡ false = sym (s.harts h).masters ∙ ap is_masters e in
    let lead : LeadFits c.limit c.master c.gate (lead_of c.master c.phase) b =
    subst (λ x. LeadFits c.limit c.master c.gate (lead_of c.master c.phase) x) (sym g.told)
    (lead_stays c.limit c.master c.gate (lead_of c.master c.phase) c.told h b.over b.traps b.faults b.next b.plantable apart g.stays_over g.traps g.faults g.next g.plantable s.lead) in
    other_gives c h (after_step r) b s (record {
      before = ap is_masters e;
      next = after_step_is_no_masters r;
      finished = λ f. sym g.off ∙ after_step_finished r f;
      old_number = after_step_has_no_number c.gate r;
      own_moves = stays c.own h (own_word (after_step r)) (own_of c h phase.Run s e ∙ after_step_is_out r);
      mark_stays = λ m. unmarked c.gate (c.phase h) phase.Run (after_step r) e refl;
    })
    fits held (ap (λ x. x.harts) g.told) (ap (λ x. x.mask) g.told) g.stays_over lead

pub run_keeps : KeepsIn phase.Run
run_keeps c h a after s lt e honest = tick_at c h phase.Run a after e
    (call_keeps c h phase.Run a after s e refl honest
    (λ held acts.
    subst (λ x. Sound (gives h (after_step (step_answer x)) after c)) (sym acts.does.1.0)
    (stepped c h acts.does.0 after s e held acts.does.1.1 acts.fits)))
