-- The conditions of the bus, and what else follows from the invariant.
use Rattle.std.proofs.Common.{◌≡◌, ℕ, suc, ◌+◌, ◌-◌, ◌*◌, ◌%◌, ◌^◌, ◌<◌, ◌≤◌, ◌==◌, ◌&&◌, ◌||◌, Bool, true, false, not, nat_lt, refl, sym, ◌∙◌, ap, subst, inl, inr, arith, if◌then◌else◌, Option, Some, None, is_some, is_none}
use Rattle.std.proofs.lemmas.Bool.{cases_Bool, eq-eqb, eqb-true, eqb-false, lt-ltb, both_ways, and_parts, and_from, and_right, or_cases, or_left, or_right, false_from_ne_true}
use Rattle.mach_base.specs.Masks.{has_bit, least}
use Rattle.deck_core.specs.ticks.Phases.{is_masters, is_shut, is_in_session, is_at_gate, late_of, is_marked, holds, called}
use Rattle.deck_core.specs.contract.Told.{Told}
use Rattle.deck_core.specs.ticks.Configuration.{Configuration, lead_of}
use Rattle.deck_core.specs.contract.Calls.{HonestCall}
use Rattle.deck_core.specs.contract.Allowed.{is_lines, is_pass, is_leaving, comes_back}
use Rattle.deck_core.specs.ticks.NextPhase.{act_of, check_answer, after_check}
use Rattle.deck_core.specs.Invariant.{Sound, LateFits, IsPlanting, StepFits, MayPlantStep, session_fits, stage_fits, bit, openings}
use Rattle.deck_core.specs.declared.plain.notes.Sitting.{Sitting}
use Rattle.deck_core.specs.declared.plain.notes.Stage.{Stage}
use Rattle.deck_core.specs.declared.plain.notes.Stage.TheVariants as stage
use Rattle.deck_core.specs.declared.plain.phase.Phase.{Phase}
use Rattle.deck_core.specs.declared.plain.phase.Phase.TheVariants as phase
use Rattle.deck_core.specs.declared.plain.phase.Place.TheVariants as place
use Rattle.deck_core.specs.declared.plain.phase.Kept.{Kept}
use Rattle.deck_core.specs.declared.plain.phase.Then.{Then}
use Rattle.deck_core.specs.declared.plain.phase.Then.TheVariants as follow
use Rattle.deck_core.specs.contract.Allowed.{is_allowed, is_legal, names_are_there, in_session, is_of, may_open, may_pull_step, is_address}
use Rattle.deck_core.specs.ticks.Tick.{tick, tick_in, transacts}
use Rattle.deck_core.specs.ticks.NextPhase.{is_transaction, after_answer}
use Rattle.deck_core.specs.declared.plain.phase.Place.{Place}
use Rattle.deck_core.specs.laws.Facts.{CallIsAllowed, OneMaster, RunsUnmasked, SessionsNeverOverlap, GoneTrapDrops, GateIsBounded}
use Rattle.deck_core.specs.declared.plain.act.Act.{Act}
use Rattle.deck_core.specs.declared.plain.act.Act.TheVariants as act
use Rattle.deck_core.specs.declared.plain.act.Answer.{Answer}
use Rattle.mach_base.proofs.Bits.{has_bit-least}
use Rattle.deck_core.proofs.Frame.{Mine, mine, master_of, put_same}
use Rattle.deck_core.proofs.Elects.{called_is, bit_and_false}
use Rattle.deck_core.proofs.Enters.{enter_step}
use Rattle.deck_core.proofs.Sessions.{least_below}
use Rattle.std.proofs.Math.Nat.{mul-le-mul_left}

allowed_from : (a : Act) (b : Told) → names_are_there a b.harts ≡ true → (b.over ≡ false → is_legal a b ≡ true) → is_allowed a b ≡ true
unfolding is_allowed
allowed_from a b names legal =
    and_from (names_are_there a b.harts) (b.over || is_legal a b) names
    (elim (cases_Bool b.over) [ inl o ↦ or_left b.over (is_legal a b) o | inr w ↦ or_right b.over (is_legal a b) (legal w) ])

-- what the session of the master's phase is known to be
session_is : (h : ℕ) (lead : Phase) (faults : ℕ) (session : Option Sitting) (test : Sitting → Bool) → is_in_session lead ≡ true → session_fits (suc h) lead faults session ≡ true → ((sitting : Sitting) → sitting.master.0 ≡ h → sitting.late ≡ late_of lead → stage_fits (has_bit faults sitting.master.0) lead sitting.stage ≡ true → test sitting ≡ true) → in_session test session ≡ true
session_is h lead faults None test inside f t = absurd (both_ways (not (is_in_session lead)) (ap not inside) f)
session_is h lead faults (Some sitting) test inside f t =
    let p = and_parts ((suc h == suc sitting.master.0) && (sitting.late == late_of lead)) (stage_fits (has_bit faults sitting.master.0) lead sitting.stage) f in
    let q = and_parts (suc h == suc sitting.master.0) (sitting.late == late_of lead) p.0 in
    let same : suc h ≡ suc sitting.master.0 = eqb-true (suc h) (suc sitting.master.0) q.0 in
    t sitting (omega (arith, same)) (eqb-true sitting.late (late_of lead) q.1) p.1

-- no session is open
session_none : (h : ℕ) (lead : Phase) (faults : ℕ) (session : Option Sitting) → ((f : Bool) (at : Stage) → stage_fits f lead at ≡ false) → session_fits (suc h) lead faults session ≡ true → is_none session ≡ true
session_none h lead faults None none f = refl
session_none h lead faults (Some sitting) none f =
    absurd (both_ways (stage_fits (has_bit faults sitting.master.0) lead sitting.stage) (none (has_bit faults sitting.master.0) sitting.stage)
    (and_parts ((suc h == suc sitting.master.0) && (sitting.late == late_of lead)) (stage_fits (has_bit faults sitting.master.0) lead sitting.stage) f).1)

of_h : (h : ℕ) (sitting : Sitting) → sitting.master.0 ≡ h → is_of h sitting ≡ true
of_h h sitting e = eq-eqb sitting.master.0 h e

pub runs_unmasked : RunsUnmasked
runs_unmasked c h s e = false_from_ne_true (has_bit c.told.mask h) (λ x.
    let apart : (c.master == suc h) ≡ false = sym (s.harts h).masters ∙ ap is_masters e in
    elim (or_cases (c.master == suc h) (is_marked c.gate (c.phase h)) ((s.marks h).masked x)) [
      | inl q ↦ both_ways (c.master == suc h) apart q
      | inr q ↦ both_ways false refl (ap (is_marked c.gate) (sym e) ∙ q)
    ])

run_allowed : (c : Configuration) (h : ℕ) → Sound c → h < c.told.harts → c.phase h ≡ phase.Run → is_allowed (act.HartStep (record { 0 = h })) c.told ≡ true
run_allowed c h s lt e = allowed_from (act.HartStep (record { 0 = h })) c.told (lt-ltb h c.told.harts lt) (λ w. ap not (runs_unmasked c h s e))

own_allowed : (c : Configuration) (h : ℕ) → h < c.told.harts → is_allowed (act.Check (record { 0 = h })) c.told ≡ true
own_allowed c h lt = allowed_from (act.Check (record { 0 = h })) c.told (lt-ltb h c.told.harts lt) (λ w. refl)

-- fewer calls were sent than the lines read and one more allow
sends_less : (harts o lines sends calls : ℕ) → sends ≤ (harts - 1) * o + calls → o ≤ lines → calls < harts - 1 → sends < (harts - 1) * suc lines
sends_less harts o lines sends calls le more few =
    let p : (harts - 1) * o ≤ (harts - 1) * lines = mul-le-mul_left (harts - 1) more in
    let q : (harts - 1) * suc lines ≡ (harts - 1) * lines + (harts - 1) = omega arith in
    omega (arith, p, q, le, few)

send_allowed : (c : Configuration) (h to : ℕ) → Sound c → c.phase h ≡ phase.Send to → is_allowed (act.Send (record { 0 = to })) c.told ≡ true
send_allowed c h to s e =
    let i : Mine c h (phase.Send to) = mine c h (phase.Send to) s e refl in
    let ne : h ≡ to → ⊥ = λ x. eqb-false (suc h) (suc to) i.lead.range.other (ap suc x) in
    let few : called c.told.harts (suc h) (phase.Send to) < c.told.harts - 1 =
    elim (called_is c.told.harts h to) [ inl a ↦ omega (arith, a.0, a.1, ne, i.below) | inr a ↦ omega (arith, a.0, a.1, ne, i.lead.range.below) ] in
    let opened : openings c.gate ≤ c.told.lines + bit (c.told.over && false) = i.lead.lines in
    allowed_from (act.Send (record { 0 = to })) c.told (lt-ltb to c.told.harts i.lead.range.below)
    (λ w. and_from (is_none c.told.session) (nat_lt c.told.sends ((c.told.harts - 1) * suc c.told.lines))
    (session_none h (phase.Send to) c.told.faults c.told.session (λ f at. refl) (i.lead.working w).session)
    (lt-ltb c.told.sends ((c.told.harts - 1) * suc c.told.lines)
    (sends_less c.told.harts (openings c.gate) c.told.lines c.told.sends (called c.told.harts (suc h) (phase.Send to)) i.lead.sends
    (omega (arith, opened, bit_and_false c.told.over)) few)))

late_names : (c : Configuration) (h : ℕ) (late : ℕ) → h < c.told.harts → LateFits c.told.harts (suc h) late → names_are_there (act.Enter (record { 0 = h }) late) c.told.harts ≡ true
late_names c h late lt f = and_from (nat_lt h c.told.harts) (nat_lt late (2 ^ c.told.harts)) (lt-ltb h c.told.harts lt) (lt-ltb late (2 ^ c.told.harts) f.below)

not_late : (harts h late : ℕ) → LateFits harts (suc h) late → has_bit late h ≡ false
not_late harts h late f = false_from_ne_true (has_bit late h) (λ x. both_ways (suc h == suc h) (f.others h x) (eq-eqb (suc h) (suc h) refl))

first_enter_legal : (c : Configuration) (h : ℕ) (kept : Kept) (session : Option Sitting) → Mine c h (phase.Enter kept false) → c.told.over ≡ false → session_fits (suc h) (phase.Enter kept false) c.told.faults session ≡ true → may_open h kept.late c.told session ≡ true
first_enter_legal c h kept None i w f =
    and_from (not (has_bit kept.late h)) (has_bit c.told.traps h) (ap not (not_late c.told.harts h kept.late i.lead.range))
    (elim (or_cases c.told.over (has_bit c.told.traps h) (i.lead.trap refl)) [ inl o ↦ absurd (both_ways c.told.over w o) | inr t ↦ t ])
first_enter_legal c h kept (Some sitting) i w f =
    absurd (both_ways false refl ((and_parts ((suc h == suc sitting.master.0) && (sitting.late == kept.late)) false f).1))

second_enter_legal : (c : Configuration) (h : ℕ) (kept : Kept) (session : Option Sitting) → Mine c h (phase.Enter kept true) → c.told.step ≡ None → session_fits (suc h) (phase.Enter kept true) c.told.faults session ≡ true → may_open h kept.late c.told session ≡ true
second_enter_legal c h kept None i none f = absurd (both_ways false refl f)
second_enter_legal c h kept (Some sitting) i none f =
    session_is h (phase.Enter kept true) c.told.faults (Some sitting)
    (λ s. (is_of h s && (s.late == kept.late)) && (is_none c.told.step && comes_back (has_bit c.told.faults h) s.stage)) refl f
    (λ s here late stage.
    and_from (is_of h s && (s.late == kept.late)) (is_none c.told.step && comes_back (has_bit c.told.faults h) s.stage)
    (and_from (is_of h s) (s.late == kept.late) (of_h h s here) (eq-eqb s.late kept.late late))
    (and_from (is_none c.told.step) (comes_back (has_bit c.told.faults h) s.stage) (ap is_none none)
    (subst (λ k. comes_back (has_bit c.told.faults k) s.stage ≡ true) here stage)))

enter_allowed : (c : Configuration) (h : ℕ) (kept : Kept) (reopens : Bool) → Sound c → c.phase h ≡ phase.Enter kept reopens → is_allowed (act.Enter (record { 0 = h }) kept.late) c.told ≡ true
enter_allowed c h kept false s e =
    let i : Mine c h (phase.Enter kept false) = mine c h (phase.Enter kept false) s e refl in
    allowed_from (act.Enter (record { 0 = h }) kept.late) c.told (late_names c h kept.late i.below i.lead.range)
    (λ w. first_enter_legal c h kept c.told.session i w (i.lead.working w).session)
enter_allowed c h kept true s e =
    let i : Mine c h (phase.Enter kept true) = mine c h (phase.Enter kept true) s e refl in
    allowed_from (act.Enter (record { 0 = h }) kept.late) c.told (late_names c h kept.late i.below i.lead.range)
    (λ w. second_enter_legal c h kept c.told.session i (enter_step kept true c.told.step c.told.next c.told.plantable c.told.stepped (i.lead.working w).step) (i.lead.working w).session)

pull_allowed : (c : Configuration) (h : ℕ) (kept : Kept) (left : ℕ) → Sound c → c.phase h ≡ phase.Pull kept left → is_allowed (act.Pull (least left)) c.told ≡ true
pull_allowed c h kept left s e =
    let i : Mine c h (phase.Pull kept left) = mine c h (phase.Pull kept left) s e refl in
    allowed_from (act.Pull (least left)) c.told (lt-ltb (least left) 16 (least_below left i.lead.range.1))
    (λ w. and_from (in_session (λ s. is_lines s.stage) c.told.session) (has_bit c.told.planted (least left))
    (session_is h (phase.Pull kept left) c.told.faults c.told.session (λ s. is_lines s.stage) refl (i.lead.working w).session (λ s here late at. at))
    (ap (λ m. has_bit m (least left)) (i.lead.working w).planted ∙ has_bit-least left i.lead.range.1.some i.lead.range.1.places))

lines_allowed : (c : Configuration) (h : ℕ) (kept : Kept) → Sound c → c.phase h ≡ phase.Lines kept → is_allowed (act.Line (record { 0 = h })) c.told ≡ true
lines_allowed c h kept s e =
    let i : Mine c h (phase.Lines kept) = mine c h (phase.Lines kept) s e refl in
    allowed_from (act.Line (record { 0 = h })) c.told (lt-ltb h c.told.harts i.below)
    (λ w. and_from (in_session (λ s. is_of h s && is_lines s.stage) c.told.session) (c.told.planted == 0)
    (session_is h (phase.Lines kept) c.told.faults c.told.session (λ s. is_of h s && is_lines s.stage) refl (i.lead.working w).session
    (λ s here late at. and_from (is_of h s) (is_lines s.stage) (of_h h s here) at))
    (eq-eqb c.told.planted 0 (i.lead.working w).planted))

plant_step_allowed : (c : Configuration) (h : ℕ) (kept : Kept) (at : ℕ) → Sound c → c.phase h ≡ phase.PlantStep kept at → is_allowed (act.PlantStep at) c.told ≡ true
plant_step_allowed c h kept at s e =
    let i : Mine c h (phase.PlantStep kept at) = mine c h (phase.PlantStep kept at) s e refl in
    allowed_from (act.PlantStep at) c.told refl
    (λ w. let f : MayPlantStep c.told.step c.told.next c.told.plantable c.told.stepped at = (i.lead.working w).step in
    and_from (in_session (λ s. is_pass s.stage) c.told.session) (is_none c.told.step && ((is_address at c.told.next && c.told.plantable) && not c.told.stepped))
    (session_is h (phase.PlantStep kept at) c.told.faults c.told.session (λ s. is_pass s.stage) refl (i.lead.working w).session (λ s here late x. x))
    (and_from (is_none c.told.step) ((is_address at c.told.next && c.told.plantable) && not c.told.stepped) (ap is_none f.free)
    (and_from (is_address at c.told.next && c.told.plantable) (not c.told.stepped)
    (and_from (is_address at c.told.next) c.told.plantable (ap (is_address at) f.at_next ∙ eq-eqb at at refl) f.text)
    (ap not f.first))))

pass_step_word : (step next : Option ℕ) (plantable stepped : Bool) (kept : Kept) (planted : Bool) → StepFits step next plantable stepped (phase.PassStep kept planted) → (if plantable then is_some step else is_none step) ≡ true
pass_step_word step next plantable stepped kept true f = ap (λ b. if b then is_some step else is_none step) f.text ∙ f.stands
pass_step_word step next plantable stepped kept false f = ap (λ b. if b then is_some step else is_none step) f.1 ∙ ap is_none f.0

pass_step_allowed : (c : Configuration) (h : ℕ) (kept : Kept) (planted : Bool) → Sound c → c.phase h ≡ phase.PassStep kept planted → is_allowed (act.PassStep (record { 0 = h })) c.told ≡ true
pass_step_allowed c h kept planted s e =
    let i : Mine c h (phase.PassStep kept planted) = mine c h (phase.PassStep kept planted) s e refl in
    allowed_from (act.PassStep (record { 0 = h })) c.told (lt-ltb h c.told.harts i.below)
    (λ w. and_from (in_session (λ s. is_of h s && is_pass s.stage) c.told.session) (if c.told.plantable then is_some c.told.step else is_none c.told.step)
    (session_is h (phase.PassStep kept planted) c.told.faults c.told.session (λ s. is_of h s && is_pass s.stage) refl (i.lead.working w).session
    (λ s here late at. and_from (is_of h s) (is_pass s.stage) (of_h h s here) at))
    (pass_step_word c.told.step c.told.next c.told.plantable c.told.stepped kept planted (i.lead.working w).step))

comes : (faulting : Bool) (at : Stage) → comes_back faulting at ≡ true → (not (is_pass at) || faulting) ≡ true
comes faulting stage.Lines x = refl
comes faulting (stage.Pass again) x = x
comes faulting stage.Back x = refl
comes faulting stage.Leaving x = refl

leaves : (faulting : Bool) (at : Stage) → is_leaving at ≡ true → (not (is_pass at) || faulting) ≡ true
leaves faulting stage.Lines x = refl
leaves faulting (stage.Pass again) x = absurd (both_ways false refl x)
leaves faulting stage.Back x = refl
leaves faulting stage.Leaving x = refl

-- the stage in which the step word is taken out
pulls : (b : Told) (sitting : Sitting) (kept : Kept) (follows : Then) → stage_fits (has_bit b.faults sitting.master.0) (phase.PullStep kept follows) sitting.stage ≡ true → may_pull_step b sitting ≡ true
pulls b sitting kept follow.Enter f = comes (has_bit b.faults sitting.master.0) sitting.stage f
pulls b sitting kept (follow.Plant left) f = leaves (has_bit b.faults sitting.master.0) sitting.stage f

pull_step_allowed : (c : Configuration) (h : ℕ) (kept : Kept) (follows : Then) → Sound c → c.phase h ≡ phase.PullStep kept follows → is_allowed act.PullStep c.told ≡ true
pull_step_allowed c h kept follows s e =
    let i : Mine c h (phase.PullStep kept follows) = mine c h (phase.PullStep kept follows) s e refl in
    allowed_from act.PullStep c.told refl
    (λ w. and_from (is_some c.told.step) (in_session (may_pull_step c.told) c.told.session) (i.lead.working w).step
    (session_is h (phase.PullStep kept follows) c.told.faults c.told.session (may_pull_step c.told) refl (i.lead.working w).session
    (λ s here late at. pulls c.told s kept follows at)))

plant_allowed : (c : Configuration) (h : ℕ) (kept : Kept) (left : ℕ) → Sound c → c.phase h ≡ phase.Plant kept left → is_allowed (act.Plant (least left)) c.told ≡ true
plant_allowed c h kept left s e =
    let i : Mine c h (phase.Plant kept left) = mine c h (phase.Plant kept left) s e refl in
    let was : has_bit left (least left) ≡ true = has_bit-least left i.lead.range.1.some i.lead.range.1.places in
    allowed_from (act.Plant (least left)) c.told (lt-ltb (least left) 16 (least_below left i.lead.range.1))
    (λ w. let f : IsPlanting c.told.planted c.told.enabled left = (i.lead.working w).planted in
    let wanted : has_bit c.told.enabled (least left) ≡ true = f.wanted (least left) was in
    and_from (in_session (λ s. is_leaving s.stage) c.told.session) (is_none c.told.step && (has_bit c.told.enabled (least left) && not (has_bit c.told.planted (least left))))
    (session_is h (phase.Plant kept left) c.told.faults c.told.session (λ s. is_leaving s.stage) refl (i.lead.working w).session (λ s here late at. at))
    (and_from (is_none c.told.step) (has_bit c.told.enabled (least left) && not (has_bit c.told.planted (least left))) (ap is_none (i.lead.working w).step)
    (and_from (has_bit c.told.enabled (least left)) (not (has_bit c.told.planted (least left))) wanted
    (ap not (f.others (least left) ∙ and_right (has_bit c.told.enabled (least left)) (not (has_bit left (least left))) (ap not was))))))

close_allowed : (c : Configuration) (h : ℕ) (kept : Kept) → Sound c → c.phase h ≡ phase.Close kept → is_allowed (act.Close (record { 0 = h })) c.told ≡ true
close_allowed c h kept s e =
    let i : Mine c h (phase.Close kept) = mine c h (phase.Close kept) s e refl in
    allowed_from (act.Close (record { 0 = h })) c.told (lt-ltb h c.told.harts i.below)
    (λ w. and_from (in_session (λ s. is_of h s && is_leaving s.stage) c.told.session) (is_none c.told.step && (c.told.planted == c.told.enabled))
    (session_is h (phase.Close kept) c.told.faults c.told.session (λ s. is_of h s && is_leaving s.stage) refl (i.lead.working w).session
    (λ s here late at. and_from (is_of h s) (is_leaving s.stage) (of_h h s here) at))
    (and_from (is_none c.told.step) (c.told.planted == c.told.enabled) (ap is_none (i.lead.working w).step)
    (eq-eqb c.told.planted c.told.enabled (i.lead.working w).planted)))

-- in each phase that makes a call
allowed_in : (c : Configuration) (h : ℕ) (p : Phase) → Sound c → h < c.told.harts → c.phase h ≡ p → is_transaction p ≡ true → is_allowed (act_of h p) c.told ≡ true
allowed_in c h phase.Run s lt e t = run_allowed c h s lt e
allowed_in c h phase.Own s lt e t = own_allowed c h lt
allowed_in c h (phase.Send to) s lt e t = send_allowed c h to s e
allowed_in c h (phase.Enter kept reopens) s lt e t = enter_allowed c h kept reopens s e
allowed_in c h (phase.Pull kept left) s lt e t = pull_allowed c h kept left s e
allowed_in c h (phase.Lines kept) s lt e t = lines_allowed c h kept s e
allowed_in c h (phase.PlantStep kept at) s lt e t = plant_step_allowed c h kept at s e
allowed_in c h (phase.PassStep kept planted) s lt e t = pass_step_allowed c h kept planted s e
allowed_in c h (phase.PullStep kept follows) s lt e t = pull_step_allowed c h kept follows s e
allowed_in c h (phase.Plant kept left) s lt e t = plant_allowed c h kept left s e
allowed_in c h (phase.Close kept) s lt e t = close_allowed c h kept s e
allowed_in c h _ s lt e t = absurd (both_ways false refl t)

pub call_is_allowed : CallIsAllowed
call_is_allowed c h s lt m = allowed_in c h (c.phase h) s lt refl (and_parts (is_transaction (c.phase h)) (holds (c.place h)) m).0

pub one_master : OneMaster
one_master c h k s a b = omega (arith, master_of c h s a, master_of c k s b)

pub sessions_never_overlap : SessionsNeverOverlap
sessions_never_overlap c h kept true sitting s e w t =
    let i : Mine c h (phase.Enter kept true) = mine c h (phase.Enter kept true) s e refl in
    let f : session_fits (suc h) (phase.Enter kept true) c.told.faults (Some sitting) ≡ true = subst (λ x. session_fits (suc h) (phase.Enter kept true) c.told.faults x ≡ true) t (i.lead.working w).session in
    let same : in_session (is_of h) (Some sitting) ≡ true = session_is h (phase.Enter kept true) c.told.faults (Some sitting) (is_of h) refl f (λ x here late at. of_h h x here) in
    (refl, eqb-true sitting.master.0 h same)
sessions_never_overlap c h kept false sitting s e w t =
    let i : Mine c h (phase.Enter kept false) = mine c h (phase.Enter kept false) s e refl in
    let none : is_none c.told.session ≡ true = session_none h (phase.Enter kept false) c.told.faults c.told.session (λ f at. refl) (i.lead.working w).session in
    absurd (both_ways (is_none c.told.session) (ap is_none t) none)

bit_le : (b : Bool) → bit b ≤ 1
bit_le true = omega arith
bit_le false = omega arith

-- the gate is shut nowhere but on the way from its shutting to its opening
open_is_even : (p : Phase) → is_at_gate p ≡ false → is_shut p ≡ false
open_is_even phase.Shut e = refl
open_is_even phase.Run e = e
open_is_even phase.Called e = e
open_is_even (phase.Mark gate) e = e
open_is_even (phase.Parked gate) e = e
open_is_even (phase.Unmark gate) e = e
open_is_even phase.Wish e = e
open_is_even phase.Want e = e
open_is_even phase.Own e = e
open_is_even (phase.Send to) e = e
open_is_even (phase.Gather looks) e = e
open_is_even (phase.Enter kept reopens) e = e
open_is_even (phase.Pull kept left) e = e
open_is_even (phase.Lines kept) e = e
open_is_even (phase.PlantStep kept at) e = e
open_is_even (phase.PassStep kept planted) e = e
open_is_even (phase.PullStep kept follows) e = e
open_is_even (phase.Plant kept left) e = e
open_is_even (phase.Close kept) e = e
open_is_even phase.OpenGate e = e
open_is_even phase.Drop e = e
open_is_even phase.Free e = e
open_is_even phase.Finished e = e

pub gate_is_bounded : GateIsBounded
gate_is_bounded c s =
    let p : openings c.gate ≤ c.told.lines + bit (c.told.over && not (is_at_gate (lead_of c.master c.phase))) = s.lead.lines in
    elim (cases_Bool (is_at_gate (lead_of c.master c.phase))) [
      | inl shut ↦
          (let q : openings c.gate ≤ c.told.lines + bit (c.told.over && false) = subst (λ x. openings c.gate ≤ c.told.lines + bit (c.told.over && not x)) shut p in
          omega (arith, q, bit_and_false c.told.over, s.told.lines, s.lead.low))
      | inr off ↦
          (let even : c.gate % 2 ≡ 0 = s.lead.parity ∙ ap bit (open_is_even (lead_of c.master c.phase) off) in
          let one : bit (c.told.over && not (is_at_gate (lead_of c.master c.phase))) ≤ 1 = bit_le (c.told.over && not (is_at_gate (lead_of c.master c.phase))) in
          omega (arith, p, even, one, s.told.lines, s.lead.low))
    ]

-- the phase after the call
given_phase : (c : Configuration) (h : ℕ) (p : Phase) (at : Place) (a : Answer) (after : Told) → holds at ≡ true → (transacts h p at a after c).phase h ≡ after_answer c.told.harts h p a
given_phase c h p place.Peek a after held = absurd (both_ways false refl held)
given_phase c h p (place.Take seen) a after held = absurd (both_ways false refl held)
given_phase c h p place.Give a after held = put_same c.phase h (after_answer c.told.harts h p a)

pub gone_trap_drops : GoneTrapDrops
unfolding tick
gone_trap_drops c h next s e m gone t =
    let acts : HonestCall (act.Check (record { 0 = h })) c.told t.answer t.after = subst (λ q. HonestCall (act_of h q) c.told t.answer t.after) e (t.honest m) in
    let none : is_some acts.does.0 ≡ false = acts.does.1.1.some ∙ and_right (not c.told.over) (has_bit c.told.traps h) gone in
    ap (λ x. x.phase h) t.ticked
    ∙ (ap (λ q. (tick_in q h t.answer t.after c).phase h) e
    ∙ (given_phase c h phase.Own (c.place h) t.answer t.after (and_parts (is_transaction (c.phase h)) (holds (c.place h)) m).1
    ∙ (ap (λ x. after_check (check_answer x)) acts.does.1.0 ∙ ap after_check none)))
