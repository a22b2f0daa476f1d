-- An open session: words are pulled, lines are run, and a single-step pass.
use Rattle.std.proofs.Common.{◌≡◌, ℕ, suc, ◌+◌, ◌^◌, ◌<◌, ◌≤◌, ◌==◌, ◌&&◌, Bool, true, false, not, refl, sym, ◌∙◌, ap, subst, inl, inr, arith, if◌then◌else◌, Option, Some, None, is_some}
use Rattle.std.proofs.lemmas.Bool.{cases_eq, cases_Bool, eqb-true, both_ways, and_parts, and_from}
use Rattle.mach_base.specs.Masks.{has_bit, mask_with, mask_without, least}
use Rattle.deck_core.specs.ticks.Phases.{is_in_session, late_of, holds}
use Rattle.deck_core.specs.contract.Told.{Told, IsTold}
use Rattle.deck_core.specs.ticks.Configuration.{Configuration}
use Rattle.deck_core.specs.contract.Calls.{Changes, in_stage}
use Rattle.deck_core.specs.contract.Allowed.{is_pass, is_leaving, comes_back}
use Rattle.deck_core.specs.ticks.Tick.{gives}
use Rattle.deck_core.specs.ticks.NextPhase.{pulling, planting, line_answer, pass_answer, after_line, passing, after_pass, after_pull_step}
use Rattle.deck_core.specs.Invariant.{Sound, Working, KeepsInRange, LateFits, LeftFits, ThenFits, IsPlanting, StepFits, session_fits, stage_fits, bit, openings}
use Rattle.deck_core.specs.declared.plain.notes.Sitting.{Sitting}
use Rattle.deck_core.specs.declared.plain.notes.Stage.{Stage}
use Rattle.deck_core.specs.declared.plain.notes.Stage.TheVariants as stage
use Rattle.deck_core.specs.declared.plain.phase.Phase.{Phase}
use Rattle.deck_core.specs.declared.plain.phase.Phase.TheVariants as phase
use Rattle.deck_core.specs.declared.plain.phase.Kept.{Kept}
use Rattle.deck_core.specs.declared.plain.phase.Then.{Then}
use Rattle.deck_core.specs.declared.plain.phase.Then.TheVariants as follow
use Rattle.deck_core.specs.contract.Calls.{PassGives, PassLeaves, LineGives, LineLeaves, IsStepAddress, Lost, line_read, executed, pulled, replanted, step_planted, step_pulled}
use Rattle.deck_core.specs.laws.Keeps.{KeepsIn}
use Rattle.deck_core.specs.declared.plain.act.Lined.{Lined}
use Rattle.deck_core.specs.declared.plain.act.Lined.TheVariants as lined
use Rattle.deck_core.specs.declared.plain.act.Passed.{Passed}
use Rattle.deck_core.specs.declared.plain.act.Passed.TheVariants as passed
use Rattle.mach_base.proofs.Bits.{has_bit-zero, has_bit-least, has_bit-below, has_bit-with_same, has_bit-with_other, has_bit-without_same, has_bit-without_other, mask_without-lt, same_mask}
use Rattle.deck_core.proofs.Frame.{Mine, mine}
use Rattle.deck_core.proofs.Transactions.{tick_at, call_keeps}
use Rattle.deck_core.proofs.Enters.{Within, Inside, inside_gives, ended_gives, ended, mask_marked, pull_inside, lines_inside, plant_step_inside, pass_step_inside, pull_step_inside, plant_inside, close_inside, enter_inside, GoesInside, left_goes, pulling_goes}

-- the least place that is left is one of the sixteen
pub least_below : (left : ℕ) → LeftFits left → least left < 16
least_below left f = has_bit-below left 16 (least left) f.places (has_bit-least left f.some f.places)

pub rest_below : (left : ℕ) → LeftFits left → mask_without left (least left) < 2 ^ 16
rest_below left f = mask_without-lt 16 left (least left) f.places (least_below left f)

-- the session of a phase fits another phase, where it may have its stage
pub session_goes : (m : ℕ) (lead lead2 : Phase) (faults : ℕ) (session : Option Sitting) → is_in_session lead ≡ true → late_of lead2 ≡ late_of lead → ((f : Bool) (at : Stage) → stage_fits f lead at ≡ true → stage_fits f lead2 at ≡ true) → session_fits m lead faults session ≡ true → session_fits m lead2 faults session ≡ true
session_goes m lead lead2 faults None inside late fits f = absurd (both_ways (not (is_in_session lead)) (ap not inside) f)
session_goes m lead lead2 faults (Some sitting) inside late fits f =
    let p = and_parts ((m == suc sitting.master.0) && (sitting.late == late_of lead)) (stage_fits (has_bit faults sitting.master.0) lead sitting.stage) f in
    and_from ((m == suc sitting.master.0) && (sitting.late == late_of lead2)) (stage_fits (has_bit faults sitting.master.0) lead2 sitting.stage)
    (ap (λ x. (m == suc sitting.master.0) && (sitting.late == x)) late ∙ p.0)
    (fits (has_bit faults sitting.master.0) sitting.stage p.1)

-- the session in another stage fits another phase
pub session_in : (m : ℕ) (lead lead2 : Phase) (faults faults2 : ℕ) (session : Option Sitting) (to : Stage) → is_in_session lead ≡ true → late_of lead2 ≡ late_of lead → ((f : Bool) → stage_fits f lead2 to ≡ true) → session_fits m lead faults session ≡ true → session_fits m lead2 faults2 (in_stage to session) ≡ true
session_in m lead lead2 faults faults2 None to inside late fits f = absurd (both_ways (not (is_in_session lead)) (ap not inside) f)
session_in m lead lead2 faults faults2 (Some sitting) to inside late fits f =
    let p = and_parts ((m == suc sitting.master.0) && (sitting.late == late_of lead)) (stage_fits (has_bit faults sitting.master.0) lead sitting.stage) f in
    and_from ((m == suc sitting.master.0) && (sitting.late == late_of lead2)) (stage_fits (has_bit faults2 sitting.master.0) lead2 to)
    (ap (λ x. (m == suc sitting.master.0) && (sitting.late == x)) late ∙ p.0)
    (fits (has_bit faults2 sitting.master.0))

-- a call over which the mask, the lines and the calls stay: the master goes on inside its session, and so it does after an
-- ending, where the call changes nothing
changed_gives : (c : Configuration) (h : ℕ) (from p : Phase) (made after : Told) → Sound c → c.phase h ≡ from → holds (c.place h) ≡ true → Changes c.told after made → IsTold after → Within from → (KeepsInRange c.limit c.told.harts (suc h) from → GoesInside c.limit c.told.harts (suc h) p) → made.harts ≡ c.told.harts → made.mask ≡ c.told.mask → made.lines ≡ c.told.lines → made.sends ≡ c.told.sends → (KeepsInRange c.limit c.told.harts (suc h) from → Working (suc h) c.gate from c.told → Working (suc h) c.gate p made) → Sound (gives h p after c)
changed_gives c h from p made after s e held g fits w goes harts mask lines sends working =
    let i : Mine c h from = mine c h from s e w.masters in
    let to : GoesInside c.limit c.told.harts (suc h) p = goes i.lead.range in
    elim (cases_Bool c.told.over) [
      | inl o ↦ subst (λ b. Sound (gives h p b c)) (sym (g.ended o)) (ended_gives c h from p s e w to.inside to.session held o to.range)
      | inr q ↦ subst (λ b. Sound (gives h p b c)) (sym (g.working q))
          (inside_gives c h from p made s e w to.inside to.session held (subst IsTold (g.working q) fits) harts (mask_marked c h from made i mask)
          (λ o. absurd (both_ways c.told.over q o)) (omega (arith, lines)) sends to.range (λ x. working i.lead.range (i.lead.working q)))
    ]

-- ---- Pull

pull_working : (m gate : ℕ) (kept : Kept) (left rest : ℕ) (b : Told) → Working m gate (phase.Pull kept left) b → mask_without left (least left) ≡ rest → (zero_left : Bool) → (rest == 0) ≡ zero_left → Working m gate (if zero_left then phase.Lines kept else phase.Pull kept rest) (pulled (least left) b)
pull_working m gate kept left rest b w r true z = record {
  session = session_goes m (phase.Pull kept left) (phase.Lines kept) b.faults b.session refl refl (λ f at x. x) w.session;
  planted = ap (λ x. mask_without x (least left)) w.planted ∙ (r ∙ eqb-true rest 0 z);
  step = w.step;
  read = λ x. absurd (both_ways false refl x);
}
pull_working m gate kept left rest b w r false z = record {
  session = session_goes m (phase.Pull kept left) (phase.Pull kept rest) b.faults b.session refl refl (λ f at x. x) w.session;
  planted = ap (λ x. mask_without x (least left)) w.planted ∙ r;
  step = w.step;
  read = λ x. absurd (both_ways false refl x);
}

pull_done : (c : Configuration) (h : ℕ) (kept : Kept) (left : ℕ) (after : Told) → Sound c → c.phase h ≡ phase.Pull kept left → holds (c.place h) ≡ true → Changes c.told after (pulled (least left) c.told) → IsTold after → Sound (gives h (pulling kept (mask_without left (least left))) after c)
pull_done c h kept left after s e held g fits =
    let rest : ℕ = mask_without left (least left) in
    changed_gives c h (phase.Pull kept left) (pulling kept rest) (pulled (least left) c.told) after s e held g fits (pull_inside kept left).within
    (λ r. pulling_goes c.limit c.told.harts (suc h) kept rest r.0 (rest_below left r.1) (rest == 0) refl) refl refl refl refl
    (λ r w. pull_working (suc h) c.gate kept left rest c.told w refl (rest == 0) refl)

pub pull_keeps : (kept : Kept) (left : ℕ) → KeepsIn (phase.Pull kept left)
pull_keeps kept left c h a after s lt e honest = tick_at c h (phase.Pull kept left) a after e
    (call_keeps c h (phase.Pull kept left) a after s e refl honest
    (λ held acts. pull_done c h kept left after s e held acts.does.1 acts.fits))

-- ---- planting

planting_goes : (limit harts m : ℕ) (kept : Kept) (left : ℕ) → LateFits harts m kept.late → left < 2 ^ 16 → (zero_left : Bool) → (left == 0) ≡ zero_left → GoesInside limit harts m (if zero_left then phase.Close kept else phase.Plant kept left)
planting_goes limit harts m kept left f lt z e =
    left_goes limit harts m left (phase.Close kept) (phase.Plant kept left) (record { inside = close_inside kept; session = refl; range = f })
    (λ l. record { inside = plant_inside kept left; session = refl; range = (f, l) }) lt z e

and_not_self : (x : Bool) → (x && not x) ≡ false
and_not_self true = refl
and_not_self false = refl

-- nothing is planted, and all the enabled places are left
pub planting_from_none : (m gate : ℕ) (kept : Kept) (planted enabled : ℕ) (b : Told) → b.planted ≡ 0 → enabled ≡ b.enabled → b.step ≡ None → openings gate < b.lines → ((lead : Phase) → late_of lead ≡ kept.late → ((f : Bool) → stage_fits f lead stage.Leaving ≡ true) → ((f : Bool) (at : Stage) → is_leaving at ≡ true → stage_fits f lead at ≡ true) → session_fits m lead b.faults b.session ≡ true) → (zero_left : Bool) → (enabled == 0) ≡ zero_left → Working m gate (if zero_left then phase.Close kept else phase.Plant kept enabled) b
planting_from_none m gate kept planted enabled b none same step read session true z = record {
  session = session (phase.Close kept) refl (λ f. refl) (λ f at x. x);
  planted = none ∙ sym (sym same ∙ eqb-true enabled 0 z);
  step = step;
  read = λ x. read;
}
planting_from_none m gate kept planted enabled b none same step read session false z = record {
  session = session (phase.Plant kept enabled) refl (λ f. refl) (λ f at x. x);
  planted = record {
    wanted = λ k x. ap (λ e. has_bit e k) (sym same) ∙ x;
    others = λ k. (ap (λ p. has_bit p k) none ∙ has_bit-zero k) ∙ sym (ap (λ e. has_bit e k && not (has_bit enabled k)) (sym same) ∙ and_not_self (has_bit enabled k));
  };
  step = step;
  read = λ x. read;
}

-- ---- Lines

-- a line was read, and the master goes on to this phase
line_gives : (c : Configuration) (h : ℕ) (kept : Kept) (p : Phase) (to : Stage) (after : Told) → Sound c → c.phase h ≡ phase.Lines kept → holds (c.place h) ≡ true → c.told.over ≡ false → after ≡ line_read to c.told after → IsTold after → Inside p → is_in_session p ≡ true → KeepsInRange c.limit c.told.harts (suc h) p → (Working (suc h) c.gate (phase.Lines kept) c.told → openings c.gate < suc c.told.lines → Working (suc h) c.gate p (line_read to c.told after)) → Sound (gives h p after c)
line_gives c h kept p to after s e held w g fits inside session range working =
    let i : Mine c h (phase.Lines kept) = mine c h (phase.Lines kept) s e refl in
    inside_gives c h (phase.Lines kept) p after s e (lines_inside kept).within inside session held fits
    (ap (λ b. b.harts) g)
    (mask_marked c h (phase.Lines kept) after i (ap (λ b. b.mask) g))
    (λ o. absurd (both_ways c.told.over w o))
    (subst (λ b. c.told.lines ≤ b.lines) (sym g) (omega arith))
    (ap (λ b. b.sends) g)
    range
    (λ x. subst (λ b. Working (suc h) c.gate p b) (sym g)
    (working (i.lead.working w)
    (let q : openings c.gate ≤ c.told.lines + bit (false && false) = subst (λ o. openings c.gate ≤ c.told.lines + bit (o && false)) w i.lead.lines in
    omega (arith, q))))

line_stays : (c : Configuration) (h : ℕ) (kept : Kept) (after : Told) → Sound c → c.phase h ≡ phase.Lines kept → holds (c.place h) ≡ true → c.told.over ≡ false → after ≡ line_read stage.Lines c.told after → IsTold after → Sound (gives h (phase.Lines kept) after c)
line_stays c h kept after s e held w g fits =
    let i : Mine c h (phase.Lines kept) = mine c h (phase.Lines kept) s e refl in
    line_gives c h kept (phase.Lines kept) stage.Lines after s e held w g fits (lines_inside kept) refl i.lead.range
    (λ f read. record {
      session = session_in (suc h) (phase.Lines kept) (phase.Lines kept) c.told.faults after.faults c.told.session stage.Lines refl refl (λ x. refl) f.session;
      planted = f.planted;
      step = f.step;
      read = λ x. absurd (both_ways false refl x);
    })

line_passes : (c : Configuration) (h : ℕ) (kept : Kept) (at : Option ℕ) (again : Bool) (after : Told) → Sound c → c.phase h ≡ phase.Lines kept → holds (c.place h) ≡ true → c.told.over ≡ false → after ≡ line_read (stage.Pass again) c.told after → IsStepAddress at after → IsTold after → Sound (gives h (passing kept at) after c)
line_passes c h kept None again after s e held w g step fits =
    let i : Mine c h (phase.Lines kept) = mine c h (phase.Lines kept) s e refl in
    line_gives c h kept (phase.PassStep kept false) (stage.Pass again) after s e held w g fits (pass_step_inside kept false) refl i.lead.range
    (λ f read. record {
      session = session_in (suc h) (phase.Lines kept) (phase.PassStep kept false) c.told.faults after.faults c.told.session (stage.Pass again) refl refl (λ x. refl) f.session;
      planted = f.planted;
      step = (f.step, step);
      read = λ x. read;
    })
line_passes c h kept (Some at) again after s e held w g step fits =
    let i : Mine c h (phase.Lines kept) = mine c h (phase.Lines kept) s e refl in
    line_gives c h kept (phase.PlantStep kept at) (stage.Pass again) after s e held w g fits (plant_step_inside kept at) refl i.lead.range
    (λ f read. record {
      session = session_in (suc h) (phase.Lines kept) (phase.PlantStep kept at) c.told.faults after.faults c.told.session (stage.Pass again) refl refl (λ x. refl) f.session;
      planted = f.planted;
      step = record { free = f.step; at_next = step.0; text = step.1; first = refl };
      read = λ x. read;
    })

line_frees : (c : Configuration) (h : ℕ) (kept : Kept) (enabled : ℕ) (after : Told) → Sound c → c.phase h ≡ phase.Lines kept → holds (c.place h) ≡ true → c.told.over ≡ false → after ≡ line_read stage.Leaving c.told after → enabled ≡ after.enabled → IsTold after → Sound (gives h (planting kept enabled) after c)
line_frees c h kept enabled after s e held w g same fits =
    let i : Mine c h (phase.Lines kept) = mine c h (phase.Lines kept) s e refl in
    let z : Bool = enabled == 0 in
    let goes : GoesInside c.limit c.told.harts (suc h) (planting kept enabled) = planting_goes c.limit c.told.harts (suc h) kept enabled i.lead.range (subst (λ x. x < 2 ^ 16) (sym same) fits.enabled) z refl in
    line_gives c h kept (planting kept enabled) stage.Leaving after s e held w g fits goes.inside goes.session goes.range
    (λ f read. planting_from_none (suc h) c.gate kept 0 enabled (line_read stage.Leaving c.told after) f.planted same f.step read
    (λ lead late fit more. session_in (suc h) (phase.Lines kept) lead c.told.faults after.faults c.told.session stage.Leaving refl late fit f.session) z refl)

-- no line was left, or the line ran out of memory: an ending stands
line_ends : (c : Configuration) (h : ℕ) (kept : Kept) (after : Told) → Sound c → c.phase h ≡ phase.Lines kept → holds (c.place h) ≡ true → IsTold after → Lost c.told after → Sound (gives h (phase.Close kept) after c)
line_ends c h kept after s e held fits g =
    let i : Mine c h (phase.Lines kept) = mine c h (phase.Lines kept) s e refl in
    inside_gives c h (phase.Lines kept) (phase.Close kept) after s e (lines_inside kept).within (close_inside kept) refl held fits
    g.harts (mask_marked c h (phase.Lines kept) after i g.mask) (λ o. g.over) (omega (arith, g.lines)) g.sends i.lead.range
    (ended (suc h) c.gate (phase.Close kept) after g.over)

line_leaves : (c : Configuration) (h : ℕ) (kept : Kept) (r : Lined) (after : Told) → Sound c → c.phase h ≡ phase.Lines kept → holds (c.place h) ≡ true → c.told.over ≡ false → LineLeaves c.told r after → IsTold after → Sound (gives h (after_line kept r) after c)
line_leaves c h kept lined.Stay after s e held w g fits = line_stays c h kept after s e held w g fits
line_leaves c h kept (lined.Pass at again) after s e held w g fits = line_passes c h kept at again after s e held w g.0 g.1 fits
line_leaves c h kept (lined.Free enabled) after s e held w g fits = line_frees c h kept enabled after s e held w g.0 g.1 fits
line_leaves c h kept lined.Ended after s e held w g fits =
    line_ends c h kept after s e held fits (record { over = ap (λ b. b.over) g; harts = ap (λ b. b.harts) g; mask = ap (λ b. b.mask) g; lines = ap (λ b. b.lines) g; sends = ap (λ b. b.sends) g })
line_leaves c h kept lined.Lost after s e held w g fits = line_ends c h kept after s e held fits g

lines_done : (c : Configuration) (h : ℕ) (kept : Kept) (r : Lined) (after : Told) → Sound c → c.phase h ≡ phase.Lines kept → holds (c.place h) ≡ true → LineGives c.told r after → IsTold after → Sound (gives h (after_line kept r) after c)
lines_done c h kept r after s e held g fits =
    elim (cases_Bool c.told.over) [
      | inl o ↦
          (let i : Mine c h (phase.Lines kept) = mine c h (phase.Lines kept) s e refl in
          let q = g.ended o in
          subst (λ x. Sound (gives h (after_line kept x) after c)) (sym q.0)
          (subst (λ b. Sound (gives h (phase.Close kept) b c)) (sym q.1)
          (ended_gives c h (phase.Lines kept) (phase.Close kept) s e (lines_inside kept).within (close_inside kept) refl held o i.lead.range)))
      | inr w ↦ line_leaves c h kept r after s e held w (g.working w) fits
    ]

pub lines_keeps : (kept : Kept) → KeepsIn (phase.Lines kept)
lines_keeps kept c h a after s lt e honest = tick_at c h (phase.Lines kept) a after e
    (call_keeps c h (phase.Lines kept) a after s e refl honest
    (λ held acts.
    subst (λ x. Sound (gives h (after_line kept (line_answer x)) after c)) (sym acts.does.1.0)
    (lines_done c h kept acts.does.0 after s e held acts.does.1.1 acts.fits)))

-- ---- PlantStep

plant_step_done : (c : Configuration) (h : ℕ) (kept : Kept) (at : ℕ) (after : Told) → Sound c → c.phase h ≡ phase.PlantStep kept at → holds (c.place h) ≡ true → Changes c.told after (step_planted at c.told) → IsTold after → Sound (gives h (phase.PassStep kept true) after c)
plant_step_done c h kept at after s e held g fits =
    changed_gives c h (phase.PlantStep kept at) (phase.PassStep kept true) (step_planted at c.told) after s e held g fits (plant_step_inside kept at).within
    (λ r. record { inside = pass_step_inside kept true; session = refl; range = r }) refl refl refl refl
    (λ r f. record {
      session = session_goes (suc h) (phase.PlantStep kept at) (phase.PassStep kept true) c.told.faults c.told.session refl refl (λ b y z. z) f.session;
      planted = f.planted;
      step = record { stands = refl; at_next = sym f.step.at_next; text = f.step.text };
      read = f.read;
    })

pub plant_step_keeps : (kept : Kept) (at : ℕ) → KeepsIn (phase.PlantStep kept at)
plant_step_keeps kept at c h a after s lt e honest = tick_at c h (phase.PlantStep kept at) a after e
    (call_keeps c h (phase.PlantStep kept at) a after s e refl honest
    (λ held acts. plant_step_done c h kept at after s e held acts.does.1 acts.fits))

-- ---- PassStep

-- the step word, before and after the instruction
pass_step_none : (step next : Option ℕ) (plantable stepped : Bool) (kept : Kept) → StepFits step next plantable stepped (phase.PassStep kept false) → step ≡ None
pass_step_none step next plantable stepped kept f = f.0

pass_step_some : (step next : Option ℕ) (plantable stepped : Bool) (kept : Kept) → StepFits step next plantable stepped (phase.PassStep kept true) → is_some step ≡ true
pass_step_some step next plantable stepped kept f = f.stands

-- the session is in the pass, and its instruction faults: it comes back
faulting_session : (h : ℕ) (lead lead2 : Phase) (faults : ℕ) (session : Option Sitting) → is_in_session lead ≡ true → late_of lead2 ≡ late_of lead → has_bit faults h ≡ true → ((at : Stage) → stage_fits true lead at ≡ true → stage_fits true lead2 at ≡ true) → session_fits (suc h) lead faults session ≡ true → session_fits (suc h) lead2 faults session ≡ true
faulting_session h lead lead2 faults None inside late faulting fits f = absurd (both_ways (not (is_in_session lead)) (ap not inside) f)
faulting_session h lead lead2 faults (Some sitting) inside late faulting fits f =
    let p = and_parts ((suc h == suc sitting.master.0) && (sitting.late == late_of lead)) (stage_fits (has_bit faults sitting.master.0) lead sitting.stage) f in
    let same : suc h ≡ suc sitting.master.0 = eqb-true (suc h) (suc sitting.master.0) (and_parts (suc h == suc sitting.master.0) (sitting.late == late_of lead) p.0).0 in
    let eq : h ≡ sitting.master.0 = omega (arith, same) in
    let t : has_bit faults sitting.master.0 ≡ true = ap (has_bit faults) (sym eq) ∙ faulting in
    and_from ((suc h == suc sitting.master.0) && (sitting.late == late_of lead2)) (stage_fits (has_bit faults sitting.master.0) lead2 sitting.stage)
    (ap (λ x. (suc h == suc sitting.master.0) && (sitting.late == x)) late ∙ p.0)
    (subst (λ b. stage_fits b lead2 sitting.stage ≡ true) (sym t) (fits sitting.stage (subst (λ b. stage_fits b lead sitting.stage ≡ true) t p.1)))

pass_comes_back : (at : Stage) → is_pass at ≡ true → comes_back true at ≡ true
pass_comes_back stage.Lines x = x
pass_comes_back (stage.Pass again) x = refl
pass_comes_back stage.Back x = refl
pass_comes_back stage.Leaving x = x

-- the master goes on from the pass, while no ending stands
pass_gives : (c : Configuration) (h : ℕ) (kept : Kept) (planted : Bool) (p : Phase) (b : Told) → Sound c → c.phase h ≡ phase.PassStep kept planted → holds (c.place h) ≡ true → c.told.over ≡ false → IsTold b → Inside p → is_in_session p ≡ true → KeepsInRange c.limit c.told.harts (suc h) p → b.harts ≡ c.told.harts → b.mask ≡ c.told.mask → b.lines ≡ c.told.lines → b.sends ≡ c.told.sends → (Working (suc h) c.gate (phase.PassStep kept planted) c.told → Working (suc h) c.gate p b) → Sound (gives h p b c)
pass_gives c h kept planted p b s e held w fits inside session range harts mask lines sends working =
    let i : Mine c h (phase.PassStep kept planted) = mine c h (phase.PassStep kept planted) s e refl in
    inside_gives c h (phase.PassStep kept planted) p b s e (pass_step_inside kept planted).within inside session held fits harts
    (mask_marked c h (phase.PassStep kept planted) b i mask) (λ o. absurd (both_ways c.told.over w o)) (omega (arith, lines)) sends range
    (λ x. working (i.lead.working w))

pass_faults : (c : Configuration) (h : ℕ) (kept : Kept) (planted : Bool) → Sound c → c.phase h ≡ phase.PassStep kept planted → holds (c.place h) ≡ true → c.told.over ≡ false → has_bit c.told.faults h ≡ true → Sound (gives h (after_pass kept planted passed.Faulted) c.told c)
pass_faults c h kept true s e held w t =
    let i : Mine c h (phase.PassStep kept true) = mine c h (phase.PassStep kept true) s e refl in
    pass_gives c h kept true (phase.PullStep kept follow.Enter) c.told s e held w s.told (pull_step_inside kept follow.Enter) refl (i.lead.range, tt) refl refl refl refl
    (λ f. record {
      session = faulting_session h (phase.PassStep kept true) (phase.PullStep kept follow.Enter) c.told.faults c.told.session refl refl t pass_comes_back f.session;
      planted = (f.planted, tt);
      step = pass_step_some c.told.step c.told.next c.told.plantable c.told.stepped kept f.step;
      read = f.read;
    })
pass_faults c h kept false s e held w t =
    let i : Mine c h (phase.PassStep kept false) = mine c h (phase.PassStep kept false) s e refl in
    pass_gives c h kept false (phase.Enter kept true) c.told s e held w s.told (enter_inside kept) refl i.lead.range refl refl refl refl
    (λ f. record {
      session = faulting_session h (phase.PassStep kept false) (phase.Enter kept true) c.told.faults c.told.session refl refl t pass_comes_back f.session;
      planted = f.planted;
      step = pass_step_none c.told.step c.told.next c.told.plantable c.told.stepped kept f.step;
      read = f.read;
    })

pass_backs : (c : Configuration) (h : ℕ) (kept : Kept) (planted : Bool) (after : Told) → Sound c → c.phase h ≡ phase.PassStep kept planted → holds (c.place h) ≡ true → c.told.over ≡ false → after ≡ executed stage.Back c.told after → IsTold after → Sound (gives h (after_pass kept planted passed.Back) after c)
pass_backs c h kept true after s e held w g fits =
    let i : Mine c h (phase.PassStep kept true) = mine c h (phase.PassStep kept true) s e refl in
    pass_gives c h kept true (phase.PullStep kept follow.Enter) after s e held w fits (pull_step_inside kept follow.Enter) refl (i.lead.range, tt)
    (ap (λ b. b.harts) g) (ap (λ b. b.mask) g) (ap (λ b. b.lines) g) (ap (λ b. b.sends) g)
    (λ f. subst (λ b. Working (suc h) c.gate (phase.PullStep kept follow.Enter) b) (sym g) (record {
      session = session_in (suc h) (phase.PassStep kept true) (phase.PullStep kept follow.Enter) c.told.faults after.faults c.told.session stage.Back refl refl (λ x. refl) f.session;
      planted = (f.planted, tt);
      step = pass_step_some c.told.step c.told.next c.told.plantable c.told.stepped kept f.step;
      read = f.read;
    }))
pass_backs c h kept false after s e held w g fits =
    let i : Mine c h (phase.PassStep kept false) = mine c h (phase.PassStep kept false) s e refl in
    pass_gives c h kept false (phase.Enter kept true) after s e held w fits (enter_inside kept) refl i.lead.range
    (ap (λ b. b.harts) g) (ap (λ b. b.mask) g) (ap (λ b. b.lines) g) (ap (λ b. b.sends) g)
    (λ f. subst (λ b. Working (suc h) c.gate (phase.Enter kept true) b) (sym g) (record {
      session = session_in (suc h) (phase.PassStep kept false) (phase.Enter kept true) c.told.faults after.faults c.told.session stage.Back refl refl (λ x. refl) f.session;
      planted = f.planted;
      step = pass_step_none c.told.step c.told.next c.told.plantable c.told.stepped kept f.step;
      read = f.read;
    }))

pass_frees : (c : Configuration) (h : ℕ) (kept : Kept) (planted : Bool) (enabled : ℕ) (after : Told) → Sound c → c.phase h ≡ phase.PassStep kept planted → holds (c.place h) ≡ true → c.told.over ≡ false → enabled ≡ c.told.enabled → after ≡ executed stage.Leaving c.told after → IsTold after → Sound (gives h (after_pass kept planted (passed.Free enabled)) after c)
pass_frees c h kept true enabled after s e held w same g fits =
    let i : Mine c h (phase.PassStep kept true) = mine c h (phase.PassStep kept true) s e refl in
    pass_gives c h kept true (phase.PullStep kept (follow.Plant enabled)) after s e held w fits (pull_step_inside kept (follow.Plant enabled)) refl
    (i.lead.range, subst (λ x. x < 2 ^ 16) (sym same) s.told.enabled)
    (ap (λ b. b.harts) g) (ap (λ b. b.mask) g) (ap (λ b. b.lines) g) (ap (λ b. b.sends) g)
    (λ f. subst (λ b. Working (suc h) c.gate (phase.PullStep kept (follow.Plant enabled)) b) (sym g) (record {
      session = session_in (suc h) (phase.PassStep kept true) (phase.PullStep kept (follow.Plant enabled)) c.told.faults after.faults c.told.session stage.Leaving refl refl (λ x. refl) f.session;
      planted = (f.planted, same);
      step = pass_step_some c.told.step c.told.next c.told.plantable c.told.stepped kept f.step;
      read = f.read;
    }))
pass_frees c h kept false enabled after s e held w same g fits =
    let i : Mine c h (phase.PassStep kept false) = mine c h (phase.PassStep kept false) s e refl in
    let z : Bool = enabled == 0 in
    let goes : GoesInside c.limit c.told.harts (suc h) (planting kept enabled) = planting_goes c.limit c.told.harts (suc h) kept enabled i.lead.range (subst (λ x. x < 2 ^ 16) (sym same) s.told.enabled) z refl in
    pass_gives c h kept false (planting kept enabled) after s e held w fits goes.inside goes.session goes.range
    (ap (λ b. b.harts) g) (ap (λ b. b.mask) g) (ap (λ b. b.lines) g) (ap (λ b. b.sends) g)
    (λ f. subst (λ b. Working (suc h) c.gate (planting kept enabled) b) (sym g)
    (planting_from_none (suc h) c.gate kept 0 enabled (executed stage.Leaving c.told after) f.planted same
    (pass_step_none c.told.step c.told.next c.told.plantable c.told.stepped kept f.step) (f.read refl)
    (λ lead late fit more. session_in (suc h) (phase.PassStep kept false) lead c.told.faults after.faults c.told.session stage.Leaving refl late fit f.session) z refl))

pass_leaves : (c : Configuration) (h : ℕ) (kept : Kept) (planted : Bool) (r : Passed) (after : Told) → Sound c → c.phase h ≡ phase.PassStep kept planted → holds (c.place h) ≡ true → c.told.over ≡ false → PassLeaves h c.told r after → IsTold after → Sound (gives h (after_pass kept planted r) after c)
pass_leaves c h kept planted passed.Faulted after s e held w g fits =
    subst (λ b. Sound (gives h (after_pass kept planted passed.Faulted) b c)) (sym g.1) (pass_faults c h kept planted s e held w g.0)
pass_leaves c h kept planted passed.Back after s e held w g fits = pass_backs c h kept planted after s e held w g.1 fits
pass_leaves c h kept planted (passed.Free enabled) after s e held w g fits = pass_frees c h kept planted enabled after s e held w g.1.0 g.1.1 fits

-- after an ending
pass_ended : (c : Configuration) (h : ℕ) (kept : Kept) (planted : Bool) → Sound c → c.phase h ≡ phase.PassStep kept planted → holds (c.place h) ≡ true → c.told.over ≡ true → Sound (gives h (after_pass kept planted (passed.Free 0)) c.told c)
pass_ended c h kept true s e held o =
    let i : Mine c h (phase.PassStep kept true) = mine c h (phase.PassStep kept true) s e refl in
    ended_gives c h (phase.PassStep kept true) (phase.PullStep kept (follow.Plant 0)) s e (pass_step_inside kept true).within (pull_step_inside kept (follow.Plant 0)) refl held o (i.lead.range, omega arith)
pass_ended c h kept false s e held o =
    let i : Mine c h (phase.PassStep kept false) = mine c h (phase.PassStep kept false) s e refl in
    ended_gives c h (phase.PassStep kept false) (phase.Close kept) s e (pass_step_inside kept false).within (close_inside kept) refl held o i.lead.range

pass_done : (c : Configuration) (h : ℕ) (kept : Kept) (planted : Bool) (r : Passed) (after : Told) → Sound c → c.phase h ≡ phase.PassStep kept planted → holds (c.place h) ≡ true → PassGives h c.told r after → IsTold after → Sound (gives h (after_pass kept planted r) after c)
pass_done c h kept planted r after s e held g fits =
    elim (cases_Bool c.told.over) [
      | inl o ↦
          (let q = g.ended o in
          subst (λ x. Sound (gives h (after_pass kept planted x) after c)) (sym q.0)
          (subst (λ b. Sound (gives h (after_pass kept planted (passed.Free 0)) b c)) (sym q.1) (pass_ended c h kept planted s e held o)))
      | inr w ↦ pass_leaves c h kept planted r after s e held w (g.working w) fits
    ]

pub pass_step_keeps : (kept : Kept) (planted : Bool) → KeepsIn (phase.PassStep kept planted)
pass_step_keeps kept planted c h a after s lt e honest = tick_at c h (phase.PassStep kept planted) a after e
    (call_keeps c h (phase.PassStep kept planted) a after s e refl honest
    (λ held acts.
    subst (λ x. Sound (gives h (after_pass kept planted (pass_answer x)) after c)) (sym acts.does.1.0)
    (pass_done c h kept planted acts.does.0 after s e held acts.does.1.1 acts.fits)))

-- ---- PullStep

-- after the step word is gone: the session opens again, or the places are planted
pulled_goes : (limit harts m : ℕ) (kept : Kept) (follows : Then) → LateFits harts m kept.late × ThenFits follows → GoesInside limit harts m (after_pull_step kept follows)
pulled_goes limit harts m kept follow.Enter f = record { inside = enter_inside kept; session = refl; range = f.0 }
pulled_goes limit harts m kept (follow.Plant left) f = planting_goes limit harts m kept left f.0 f.1 (left == 0) refl

pulled_working : (m gate : ℕ) (kept : Kept) (follows : Then) (b : Told) → Working m gate (phase.PullStep kept follows) b → Working m gate (after_pull_step kept follows) (step_pulled b)
pulled_working m gate kept follow.Enter b f = record {
  session = session_goes m (phase.PullStep kept follow.Enter) (phase.Enter kept true) b.faults b.session refl refl (λ x y z. z) f.session;
  planted = f.planted.0;
  step = refl;
  read = f.read;
}
pulled_working m gate kept (follow.Plant left) b f =
    planting_from_none m gate kept 0 left (step_pulled b) f.planted.0 f.planted.1 refl (f.read refl)
    (λ lead late fit more. session_goes m (phase.PullStep kept (follow.Plant left)) lead b.faults b.session refl late more f.session)
    (left == 0) refl

pull_step_done : (c : Configuration) (h : ℕ) (kept : Kept) (follows : Then) (after : Told) → Sound c → c.phase h ≡ phase.PullStep kept follows → holds (c.place h) ≡ true → Changes c.told after (step_pulled c.told) → IsTold after → Sound (gives h (after_pull_step kept follows) after c)
pull_step_done c h kept follows after s e held g fits =
    changed_gives c h (phase.PullStep kept follows) (after_pull_step kept follows) (step_pulled c.told) after s e held g fits (pull_step_inside kept follows).within
    (pulled_goes c.limit c.told.harts (suc h) kept follows) refl refl refl refl (λ r. pulled_working (suc h) c.gate kept follows c.told)

pub pull_step_keeps : (kept : Kept) (follows : Then) → KeepsIn (phase.PullStep kept follows)
pull_step_keeps kept follows c h a after s lt e honest = tick_at c h (phase.PullStep kept follows) a after e
    (call_keeps c h (phase.PullStep kept follows) a after s e refl honest
    (λ held acts. pull_step_done c h kept follows after s e held acts.does.1 acts.fits))

-- ---- Plant

-- one more place is planted
planting_on : (planted enabled left : ℕ) → LeftFits left → IsPlanting planted enabled left → IsPlanting (mask_with planted (least left)) enabled (mask_without left (least left))
planting_on planted enabled left f g =
    let i : ℕ = least left in
    let was : has_bit left i ≡ true = has_bit-least left f.some f.places in
    record {
      wanted = λ k x. elim (cases_eq k i) [
        | inl q ↦ absurd (both_ways (has_bit (mask_without left i) i) (has_bit-without_same left i was) (subst (λ j. has_bit (mask_without left i) j ≡ true) q x))
        | inr ne ↦ g.wanted k (sym (has_bit-without_other left i k ne) ∙ x)
      ];
      others = λ k. elim (cases_eq k i) [
        | inl q ↦ subst (λ j. has_bit (mask_with planted i) j ≡ (has_bit enabled j && not (has_bit (mask_without left i) j))) (sym q)
            (has_bit-with_same planted i ∙ sym (and_from (has_bit enabled i) (not (has_bit (mask_without left i) i)) (g.wanted i was) (ap not (has_bit-without_same left i was))))
        | inr ne ↦ has_bit-with_other planted i k ne ∙ (g.others k ∙ ap (λ x. has_bit enabled k && not x) (sym (has_bit-without_other left i k ne)))
      ];
    }

and_true : (x : Bool) → (x && not false) ≡ x
and_true true = refl
and_true false = refl

plant_working : (m gate : ℕ) (kept : Kept) (left rest : ℕ) (b : Told) → LeftFits left → Working m gate (phase.Plant kept left) b → mask_without left (least left) ≡ rest → (zero_left : Bool) → (rest == 0) ≡ zero_left → Working m gate (if zero_left then phase.Close kept else phase.Plant kept rest) (replanted (least left) b)
plant_working m gate kept left rest b l w r true z =
    let on : IsPlanting (mask_with b.planted (least left)) b.enabled rest = subst (λ x. IsPlanting (mask_with b.planted (least left)) b.enabled x) r (planting_on b.planted b.enabled left l w.planted) in
    let none : rest ≡ 0 = eqb-true rest 0 z in
    record {
      session = session_goes m (phase.Plant kept left) (phase.Close kept) b.faults b.session refl refl (λ f at x. x) w.session;
      planted = same_mask (mask_with b.planted (least left)) b.enabled
          (λ k. on.others k ∙ (ap (λ x. has_bit b.enabled k && not x) (ap (λ x. has_bit x k) none ∙ has_bit-zero k) ∙ and_true (has_bit b.enabled k)));
      step = w.step;
      read = w.read;
    }
plant_working m gate kept left rest b l w r false z = record {
  session = session_goes m (phase.Plant kept left) (phase.Plant kept rest) b.faults b.session refl refl (λ f at x. x) w.session;
  planted = subst (λ x. IsPlanting (mask_with b.planted (least left)) b.enabled x) r (planting_on b.planted b.enabled left l w.planted);
  step = w.step;
  read = w.read;
}

plant_done : (c : Configuration) (h : ℕ) (kept : Kept) (left : ℕ) (after : Told) → Sound c → c.phase h ≡ phase.Plant kept left → holds (c.place h) ≡ true → Changes c.told after (replanted (least left) c.told) → IsTold after → Sound (gives h (planting kept (mask_without left (least left))) after c)
plant_done c h kept left after s e held g fits =
    let rest : ℕ = mask_without left (least left) in
    changed_gives c h (phase.Plant kept left) (planting kept rest) (replanted (least left) c.told) after s e held g fits (plant_inside kept left).within
    (λ r. planting_goes c.limit c.told.harts (suc h) kept rest r.0 (rest_below left r.1) (rest == 0) refl) refl refl refl refl
    (λ r w. plant_working (suc h) c.gate kept left rest c.told r.1 w refl (rest == 0) refl)

pub plant_keeps : (kept : Kept) (left : ℕ) → KeepsIn (phase.Plant kept left)
plant_keeps kept left c h a after s lt e honest = tick_at c h (phase.Plant kept left) a after e
    (call_keeps c h (phase.Plant kept left) a after s e refl honest
    (λ held acts. plant_done c h kept left after s e held acts.does.1 acts.fits))
