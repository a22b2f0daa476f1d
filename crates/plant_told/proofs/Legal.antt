-- Allowed calls are legal entries.
use Rattle.std.proofs.Common.{◌≡◌, ◌≢◌, ℕ, eqb, ltb, ◌<◌, ◌^◌, ◌==◌, ◌&&◌, ◌||◌, Bool, true, false, not, cond, Option, Some, None, is_some, is_none, nat_lt, option_map, refl, sym, ap, subst, ◌∙◌}
use Rattle.std.proofs.lemmas.Bool.{false≢true, eqb-true, eq-eqb, ltb-true, lt-ltb}
use Rattle.mach_base.specs.Masks.{has_bit}
use Rattle.mach_base.specs.Machine.{Machine, is_text_word}
use Rattle.mach_base.specs.declared.limits.TheConstants.{PLACES}
use Rattle.mach_base.specs.declared.event.Hart.{Hart}
use Rattle.mach_base.specs.declared.event.Fault.{Fault}
use Rattle.mach_base.specs.declared.event.Reason.{Reason}
use Rattle.mach_base.specs.declared.event.Reason.TheVariants as reason
use Rattle.mach_base.specs.declared.event.Ending.TheVariants.{ScriptEnd}
use Rattle.mach_base.specs.declared.event.Entry.TheVariants.{Step, Send, Open, Pull, Line, Plant, PlantStep, PullStep, Close, Off}
use Rattle.hart_step.specs.declared.control.After.{After}
use Rattle.hart_step.specs.declared.control.After.TheVariants.{At, Nowhere}
use Rattle.deck_core.specs.declared.plain.act.Act.{Act}
use Rattle.deck_core.specs.declared.plain.act.Act.TheVariants as act
use Rattle.deck_core.specs.declared.plain.notes.Sitting.{Sitting}
use Rattle.deck_core.specs.declared.plain.notes.Stage.{Stage}
use Rattle.deck_core.specs.declared.plain.notes.Stage.TheVariants as stage
use Rattle.deck_core.specs.contract.Told.{Told}
use Rattle.deck_core.specs.contract.Allowed.{in_session, is_of, is_lines, is_pass, is_leaving, comes_back, is_address, may_open, may_pull_step as may_pull_step_told, is_legal, names_are_there, is_allowed}
use Rattle.atom_mach.specs.State.{hart_count, context_at}
use Rattle.atom_mach.specs.Traps.{fault_of, next_pc, trap}
use Rattle.atom_mach.specs.Session.{is_hart}
use Rattle.atom_mach.proofs.Booleans.{and_true, both, not_is}
use Rattle.plant_mach.specs.Machine.{PlantedMachine, planted_at, enabled_at, planted_of, enabled_of}
use Rattle.plant_mach.specs.Entries.{faults, can_sit, reason_again, reason_in, reason_now, has_line, step_address, text_elsewhere, is_step_ready, may_run, may_pass, may_pull_step, may}
use Rattle.plant_mach.specs.Order.{IsOrderly, IsSeated, SessionFits}
use Rattle.plant_mach.proofs.Sessions.{IsOpen, in_session-open, is_pass-Pass}
use Rattle.plant_mach.proofs.Places.{bit-within, planted-bit, enabled-bit}
use Rattle.plant_told.specs.Told.{Counted, address_of, next_in, plantable_in, traps_of, faults_of, told_of}
use Rattle.plant_told.specs.Laws.{IsAwake, IsAwakeAt, IsGoing, IsAllowed, CallsAreLegal}

either_second : (a b : Bool) → b ≡ true → (a || b) ≡ true
either_second true b q = refl
either_second false b q = q

-- what allows a call while the run goes on
pub allowed : (a : Act) (c : Counted) → IsGoing c → IsAllowed a c → (names_are_there a (hart_count c.machine.machine) ≡ true) × (is_legal a (told_of c) ≡ true)
unfolding is_allowed told_of
allowed a c going e =
    let p = and_true (names_are_there a (hart_count c.machine.machine)) _ e in
    (p.0, sym (ap (λ o. is_some o || is_legal a (told_of c)) going.ending) ∙ p.1)

send-legal : (c : Counted) (k : Hart) → IsGoing c → IsAllowed (act.Send k) c → may c.machine (Send k) ≡ true
unfolding told_of may
send-legal c k going e =
    let a = allowed (act.Send k) c going e in
    both (is_hart c.machine.machine k.0) _ a.0 (and_true (is_none c.machine.session) _ a.1).0

-- Openings.

some-reason : (f : Option Fault) → is_some f ≡ true → is_some (option_map reason.Fault f) ≡ true
some-reason None e = e
some-reason (Some x) e = refl

comes-again : (s : Machine) (m : ℕ) (g : Stage) → comes_back (is_some (fault_of s m)) g ≡ true → is_some (reason_again s m g) ≡ true
comes-again s m stage.Lines e = absurd (false≢true e)
comes-again s m (stage.Pass again) e = some-reason (fault_of s m) e
comes-again s m stage.Back e = refl
comes-again s m stage.Leaving e = absurd (false≢true e)

same_master : (a b : ℕ) → eqb a b ≡ true → a ≡ b
same_master a b e = eqb-true a b e

enter-in : (c : Counted) (h : Hart) (late : ℕ) → IsGoing c → h.0 < hart_count c.machine.machine → late < 2 ^ hart_count c.machine.machine → (session : Option Sitting) → c.machine.session ≡ session → may_open h.0 late (told_of c) session ≡ true →
    (has_bit late h.0 ≡ false) × (is_some (reason_in session c.machine h.0 late) ≡ true)
unfolding told_of traps_of faults_of
enter-in c h late going below few None is e =
    let a = and_true (not (has_bit late h.0)) _ e in
    (not_is (has_bit late h.0) a.0, sym (bit-within (λ k. is_some (trap c.machine.machine k)) (hart_count c.machine.machine) h.0 below) ∙ a.1)
enter-in c h late going below few (Some s) is e =
    let a = and_true (is_of h.0 s && (eqb s.late late)) _ e in
    let b = and_true (is_of h.0 s) (eqb s.late late) a.0 in
    let d = and_true (is_none c.machine.step) _ a.1 in
    let seated = subst (IsSeated (hart_count c.machine.machine)) is going.order.seated in
    let own = eqb-true s.master.0 h.0 b.0 in
    let same = eqb-true s.late late b.1 in
    let on_time : has_bit late h.0 ≡ false = ap (λ l. has_bit l h.0) (sym same) ∙ ap (has_bit s.late) (sym own) ∙ seated.on_time in
    let back : comes_back (is_some (fault_of c.machine.machine h.0)) s.stage ≡ true = ap (λ f. comes_back f s.stage) (sym (bit-within (faults c.machine) (hart_count c.machine.machine) h.0 below)) ∙ d.1 in
    (on_time, ap (λ t. is_some (cond t (reason_again c.machine.machine h.0 s.stage) None)) (both (is_of h.0 s) _ b.0 (both (eqb s.late late) _ b.1 d.0)) ∙ comes-again c.machine.machine h.0 s.stage back)

pub enter-legal : (c : Counted) (h : Hart) (late : ℕ) → IsGoing c → IsAllowed (act.Enter h late) c → may c.machine (Open h late) ≡ true
unfolding told_of may
enter-legal c h late going e =
    let a = allowed (act.Enter h late) c going e in
    let n = and_true (nat_lt h.0 (hart_count c.machine.machine)) _ a.0 in
    let r = enter-in c h late going (ltb-true _ _ n.0) (ltb-true _ _ n.1) c.machine.session refl a.1 in
    both (can_sit c.machine.machine h.0 late) _ (both (is_hart c.machine.machine h.0) _ n.0 (both (nat_lt late (2 ^ hart_count c.machine.machine)) _ n.1 (ap not r.0))) r.1

-- Lines, and what is planted and pulled.

pull-legal : (c : Counted) (i : ℕ) → IsGoing c → IsAllowed (act.Pull i) c → may c.machine (Pull i) ≡ true
unfolding told_of may
pull-legal c i going e =
    let a = allowed (act.Pull i) c going e in
    let b = and_true (in_session (λ s. is_lines s.stage) c.machine.session) _ a.1 in
    both (in_session (λ s. is_lines s.stage) c.machine.session) _ b.0 (sym (planted-bit c.machine.places PLACES i (ltb-true _ _ a.0)) ∙ b.1)

line-legal : (c : Counted) (h : Hart) → IsGoing c → IsAllowed (act.Line h) c → has_line c.machine.machine.unread ≡ true → may c.machine (Line h) ≡ true
unfolding told_of may
line-legal c h going e there =
    let a = allowed (act.Line h) c going e in
    let b = and_true (in_session (λ s. is_of h.0 s && is_lines s.stage) c.machine.session) _ a.1 in
    both (in_session (λ s. is_of h.0 s && is_lines s.stage) c.machine.session) _ b.0 (both (eqb (planted_of c.machine) 0) _ b.1 there)

in-other : (test other : Sitting → Bool) (session : Option Sitting) → ((s : Sitting) → test s ≡ true → other s ≡ true) → in_session test session ≡ true → in_session other session ≡ true
in-other test other None goes e = e
in-other test other (Some s) goes e = goes s e

script_end-legal : (c : Counted) (h : Hart) → IsGoing c → IsAllowed (act.Line h) c → has_line c.machine.machine.unread ≡ false → may c.machine (Off ScriptEnd) ≡ true
unfolding told_of may
script_end-legal c h going e none =
    let a = allowed (act.Line h) c going e in
    let b = and_true (in_session (λ s. is_of h.0 s && is_lines s.stage) c.machine.session) _ a.1 in
    both (in_session (λ s. is_lines s.stage) c.machine.session) _
    (in-other (λ s. is_of h.0 s && is_lines s.stage) (λ s. is_lines s.stage) c.machine.session (λ s f. (and_true (is_of h.0 s) _ f).1) b.0)
    (both (eqb (planted_of c.machine) 0) _ b.1 (ap not none))

-- the step word's place, by the next address and whether it is plantable
step-address : (s : Machine) (pc addr : ℕ) (next : After) → is_address addr (address_of next) ≡ true → is_some (text_elsewhere s pc next) ≡ true → is_address addr (text_elsewhere s pc next) ≡ true
step-address s pc addr (At a) e f = by_test (is_text_word s.seen.memory a && not (eqb a pc)) f
  where
    by_test : (b : Bool) → is_some (cond b (Some a) None) ≡ true → is_address addr (cond b (Some a) None) ≡ true
    by_test true g = e
    by_test false g = absurd (false≢true g)
step-address s pc addr Nowhere e f = absurd (false≢true e)

plant_step-in : (s : Machine) (addr : ℕ) (session : Option Sitting) → in_session (λ x. is_pass x.stage) session ≡ true → is_address addr (next_in session s) ≡ true → plantable_in session s ≡ true → in_session (λ x. is_pass x.stage && is_address addr (step_address s x.master.0)) session ≡ true
plant_step-in s addr None pass next plantable = pass
plant_step-in s addr (Some x) pass next plantable = both (is_pass x.stage) _ pass (step-address s (context_at s x.master.0).pc addr (next_pc s x.master.0) next plantable)

plant_step-legal : (c : Counted) (addr : ℕ) → IsGoing c → IsAllowed (act.PlantStep addr) c → may c.machine (PlantStep addr) ≡ true
unfolding told_of may
plant_step-legal c addr going e =
    let a = allowed (act.PlantStep addr) c going e in
    let b = and_true (in_session (λ x. is_pass x.stage) c.machine.session) _ a.1 in
    let d = and_true (is_none c.machine.step) _ b.1 in
    let f = and_true (is_address addr (next_in c.machine.session c.machine.machine) && plantable_in c.machine.session c.machine.machine) _ d.1 in
    let g = and_true (is_address addr (next_in c.machine.session c.machine.machine)) (plantable_in c.machine.session c.machine.machine) f.0 in
    both _ (is_none c.machine.step) (plant_step-in c.machine.machine addr c.machine.session b.0 g.0 g.1) d.0

pull_step-in : (c : Counted) (session : Option Sitting) → IsSeated (hart_count c.machine.machine) session → in_session (may_pull_step_told (told_of c)) session ≡ true → in_session (may_pull_step c.machine) session ≡ true
unfolding told_of faults_of
pull_step-in c None seated e = e
pull_step-in c (Some s) seated e = ap (λ f. not (is_pass s.stage) || f) (sym (bit-within (faults c.machine) (hart_count c.machine.machine) s.master.0 seated.master)) ∙ e

pull_step-legal : (c : Counted) → IsGoing c → IsAllowed act.PullStep c → may c.machine PullStep ≡ true
unfolding told_of may
pull_step-legal c going e =
    let a = allowed act.PullStep c going e in
    let b = and_true (is_some c.machine.step) _ a.1 in
    both (is_some c.machine.step) _ b.0 (pull_step-in c c.machine.session going.order.seated b.1)

plant-legal : (c : Counted) (i : ℕ) → IsGoing c → IsAllowed (act.Plant i) c → may c.machine (Plant i) ≡ true
unfolding told_of may
plant-legal c i going e =
    let a = allowed (act.Plant i) c going e in
    let lt = ltb-true i PLACES a.0 in
    let b = and_true (in_session (λ s. is_leaving s.stage) c.machine.session) _ a.1 in
    let d = and_true (is_none c.machine.step) _ b.1 in
    let f = and_true (has_bit (enabled_of c.machine) i) _ d.1 in
    both (in_session (λ s. is_leaving s.stage) c.machine.session) _ b.0 (both (is_none c.machine.step) _ d.0
    (both (is_some (enabled_at c.machine i)) _ (sym (enabled-bit c.machine.machine.seen.places PLACES i lt) ∙ f.0)
    (not-planted (planted_at c.machine i) (ap not (sym (planted-bit c.machine.places PLACES i lt)) ∙ f.1))))
  where
    not-planted : (o : Option ℕ) → not (is_some o) ≡ true → is_none o ≡ true
    not-planted None g = refl
    not-planted (Some x) g = g

close-legal : (c : Counted) (h : Hart) → IsGoing c → IsAllowed (act.Close h) c → may c.machine (Close h) ≡ true
unfolding told_of may
close-legal c h going e = (allowed (act.Close h) c going e).1

-- The step of a pass.

step-ready : (wanted step : Option ℕ) → cond (is_some wanted) (is_some step) (is_none step) ≡ true → is_step_ready wanted step ≡ true
step-ready None None e = refl
step-ready None (Some x) e = absurd (false≢true e)
step-ready (Some a) None e = absurd (false≢true e)
step-ready (Some a) (Some x) e = refl

ready-in : (s : Machine) (h : ℕ) (step : Option ℕ) (session : Option Sitting) → in_session (λ x. is_of h x && is_pass x.stage) session ≡ true → cond (plantable_in session s) (is_some step) (is_none step) ≡ true → is_step_ready (step_address s h) step ≡ true
ready-in s h step None pass e = absurd (false≢true pass)
ready-in s h step (Some x) pass e =
    let own = eqb-true x.master.0 h (and_true (is_of h x) _ pass).0 in
    step-ready (step_address s h) step (ap (λ m. cond (is_some (step_address s m)) (is_some step) (is_none step)) (sym own) ∙ e)

-- the master of a pass isn't halted, and a session was opened
pass-facts : (c : Counted) (h : ℕ) → IsGoing c → in_session (λ x. is_of h x && is_pass x.stage) c.machine.session ≡ true → (c.machine.machine.opened ≡ true) × ((context_at c.machine.machine h).halted ≡ false)
pass-facts c h going pass =
    let found = in_session-open (λ x. is_of h x && is_pass x.stage) c.machine.session pass in
    let s = found.sitting in
    let b = and_true (is_of h s) (is_pass s.stage) found.passes in
    let own = eqb-true s.master.0 h b.0 in
    let p = is_pass-Pass s.stage b.1 in
    let fits = subst (λ session. SessionFits session c.machine) found.is going.order.session in
    let awake = subst (λ g. IsAwakeAt g (context_at c.machine.machine s.master.0).halted) p.is (subst (λ session. IsAwake session c.machine.machine) found.is going.awake) in
    (fits.0, ap (λ m. (context_at c.machine.machine m).halted) (sym own) ∙ awake)

pass_step-legal : (c : Counted) (h : Hart) → IsGoing c → IsAllowed (act.PassStep h) c → fault_of c.machine.machine h.0 ≡ None → may c.machine (Step h) ≡ true
unfolding told_of may
pass_step-legal c h going e right =
    let a = allowed (act.PassStep h) c going e in
    let b = and_true (in_session (λ x. is_of h.0 x && is_pass x.stage) c.machine.session) _ a.1 in
    let f = pass-facts c h.0 going b.0 in
    let pass : may_pass c.machine h.0 ≡ true =
    both (in_session (λ x. is_of h.0 x && is_pass x.stage) c.machine.session) _ b.0
    (both (not (faults c.machine h.0)) _ (ap (λ o. not (is_some o)) right) (ready-in c.machine.machine h.0 c.machine.step c.machine.session b.0 b.1)) in
    both (is_hart c.machine.machine h.0) _ a.0 (both c.machine.machine.opened _ f.0 (both (not (context_at c.machine.machine h.0).halted) _ (ap not f.1) (either_second (may_run c.machine h.0) _ pass)))

pub calls_legal : CallsAreLegal
calls_legal = record {
  send = send-legal;
  enter = enter-legal;
  pull = pull-legal;
  line = line-legal;
  script_end = script_end-legal;
  plant_step = plant_step-legal;
  pass_step = pass_step-legal;
  pull_step = pull_step-legal;
  plant = plant-legal;
  close = close-legal;
}
