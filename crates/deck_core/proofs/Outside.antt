-- The phases outside a master's, but Run, and the way to become the master.
use Rattle.std.proofs.Common.{◌≡◌, ℕ, suc, ◌+◌, ◌%◌, ◌<◌, ◌≤◌, ◌==◌, ◌&&◌, ◌||◌, Bool, true, false, not, refl, sym, ◌∙◌, ap, subst, arith, if◌then◌else◌, Option, Some, None}
use Rattle.std.proofs.lemmas.Bool.{eq-eqb, ne_eqb, eqb-true, eqb-false, both_ways, and_parts}
use Rattle.mach_base.specs.Masks.{has_bit}
use Rattle.deck_core.specs.ticks.Phases.{is_masters, own_word, is_finished, is_shut, is_before_opening, is_in_session, has_read, is_at_gate, late_of, is_marked, KeepsOldNumber, WasShut, counts, called}
use Rattle.deck_core.specs.contract.Told.{Told}
use Rattle.deck_core.specs.ticks.Configuration.{Configuration, put, lead_of}
use Rattle.deck_core.specs.ticks.Tick.{enters}
use Rattle.deck_core.specs.Invariant.{Sound, Working, MarkFits, LeadFits, KeepsInRange, PlantedFits, StepFits, session_fits, stage_fits, at_master, bit, openings}
use Rattle.deck_core.specs.laws.Keeps.{KeepsIn}
use Rattle.deck_core.specs.declared.plain.notes.Sitting.{Sitting}
use Rattle.deck_core.specs.declared.plain.notes.Stage.{Stage}
use Rattle.deck_core.specs.declared.plain.phase.Phase.{Phase}
use Rattle.deck_core.specs.declared.plain.phase.Phase.TheVariants as phase
use Rattle.mach_base.proofs.Bits.{has_bit-zero}
use Rattle.deck_core.proofs.Frame.{Moves, stays, put_moves, put_same, other_moves, moved}
use Rattle.deck_core.proofs.Transactions.{tick_at}

-- a hart in this phase has this own word
pub own_of : (c : Configuration) (h : ℕ) (from : Phase) → Sound c → c.phase h ≡ from → c.own h ≡ own_word from
own_of c h from s e = (s.harts h).own_word ∙ ap own_word e

pub old_of : (c : Configuration) (h : ℕ) (from : Phase) → Sound c → c.phase h ≡ from → KeepsOldNumber c.gate from
old_of c h from s e = subst (λ p. KeepsOldNumber c.gate p) e (s.harts h).old_number

-- from a phase without a mark that counts
pub unmarked : (gate : ℕ) (p from : Phase) (q : Phase) → p ≡ from → is_marked gate from ≡ false → is_marked gate p ≡ true → is_marked gate q ≡ true
unmarked gate p from q e f t = absurd (both_ways (is_marked gate from) f (ap (is_marked gate) (sym e) ∙ t))

-- a hart whose phase is no master's, and has no mark that counts, goes to another such phase
goes_outside : (c : Configuration) (h : ℕ) (from p : Phase) (own : ℕ → ℕ) → Sound c → c.phase h ≡ from → is_masters from ≡ false → is_marked c.gate from ≡ false → is_masters p ≡ false → is_finished p ≡ false → KeepsOldNumber c.gate p → Moves c.own h (own_word p) own → Sound (record c { own = own; phase = put c.phase h p })
goes_outside c h from p own s e outside uncounted next unfinished old moves = other_moves c h p own s (record {
  before = ap is_masters e ∙ outside;
  next = next;
  finished = λ f. absurd (both_ways (is_finished p) unfinished f);
  old_number = old;
  own_moves = moves;
  mark_stays = λ m. unmarked c.gate (c.phase h) from p e uncounted;
})

called_in : (c : Configuration) (h : ℕ) → Sound c → c.phase h ≡ phase.Called → (even : Bool) → (c.gate % 2 == 0) ≡ even → Sound (enters h (if even then phase.Run else phase.Mark c.gate) c)
called_in c h s e true t = goes_outside c h phase.Called phase.Run c.own s e refl refl refl refl tt (stays c.own h 0 (own_of c h phase.Called s e))
called_in c h s e false t =
    let ne : c.gate % 2 ≡ 0 → ⊥ = eqb-false (c.gate % 2) 0 t in
    let old : WasShut c.gate c.gate = record { odd = omega (arith, ne); low = omega (arith, ne, s.lead.low); high = omega arith } in
    goes_outside c h phase.Called (phase.Mark c.gate) c.own s e refl refl refl refl old (stays c.own h 0 (own_of c h phase.Called s e))

pub called_keeps : KeepsIn phase.Called
called_keeps c h a after s lt e honest = tick_at c h phase.Called a after e (called_in c h s e (c.gate % 2 == 0) refl)

pub mark_keeps : (gate : ℕ) → KeepsIn (phase.Mark gate)
mark_keeps g c h a after s lt e honest = tick_at c h (phase.Mark g) a after e
    (goes_outside c h (phase.Mark g) (phase.Parked g) (put c.own h g) s e refl refl refl refl (old_of c h (phase.Mark g) s e) (put_moves c.own h g))

parked_in : (g : ℕ) (c : Configuration) (h : ℕ) → Sound c → c.phase h ≡ phase.Parked g → (same : Bool) → (c.gate == g) ≡ same → Sound (if same then c else enters h (phase.Unmark g) c)
parked_in g c h s e true t = s
parked_in g c h s e false t =
    let ne : c.gate ≡ g → ⊥ = eqb-false c.gate g t in
    let old : WasShut c.gate g = old_of c h (phase.Parked g) s e in
    goes_outside c h (phase.Parked g) (phase.Unmark g) c.own s e refl (ne_eqb g c.gate (λ f. ne (sym f))) refl refl (old, omega (arith, ne, old.high))
    (stays c.own h g (own_of c h (phase.Parked g) s e))

pub parked_keeps : (gate : ℕ) → KeepsIn (phase.Parked gate)
parked_keeps g c h a after s lt e honest = tick_at c h (phase.Parked g) a after e (parked_in g c h s e (c.gate == g) refl)

pub unmark_keeps : (gate : ℕ) → KeepsIn (phase.Unmark gate)
unmark_keeps g c h a after s lt e honest = tick_at c h (phase.Unmark g) a after e
    (goes_outside c h (phase.Unmark g) phase.Run (put c.own h 0) s e refl refl refl refl tt (put_moves c.own h 0))

pub wish_keeps : KeepsIn phase.Wish
wish_keeps c h a after s lt e honest = tick_at c h phase.Wish a after e
    (goes_outside c h phase.Wish phase.Want (put c.own h 1) s e refl refl refl refl tt (put_moves c.own h 1))

pub finished_keeps : KeepsIn phase.Finished
finished_keeps c h a after s lt e honest = tick_at c h phase.Finished a after e s

-- a session that fits a phase in which none is open fits another such phase
pub no_session : (m m2 : ℕ) (lead lead2 : Phase) (faults : ℕ) (session : Option Sitting) → ((f : Bool) (at : Stage) → stage_fits f lead at ≡ false) → is_in_session lead2 ≡ false → session_fits m lead faults session ≡ true → session_fits m2 lead2 faults session ≡ true
no_session m m2 lead lead2 faults None none out f = ap not out
no_session m m2 lead lead2 faults (Some sitting) none out f =
    absurd (both_ways (stage_fits (has_bit faults sitting.master.0) lead sitting.stage) (none (has_bit faults sitting.master.0) sitting.stage)
    (and_parts ((m == suc sitting.master.0) && (sitting.late == late_of lead)) (stage_fits (has_bit faults sitting.master.0) lead sitting.stage) f).1)

-- from a phase without a session to another: what holds of the bus stays, however many calls it has counted
pub quiet_working : (m m2 gate gate2 : ℕ) (from p : Phase) (b : Told) (sends : ℕ) → ((f : Bool) (at : Stage) → stage_fits f from at ≡ false) → is_in_session p ≡ false → has_read p ≡ false → (PlantedFits b.planted b.enabled from → PlantedFits b.planted b.enabled p) → (StepFits b.step b.next b.plantable b.stepped from → StepFits b.step b.next b.plantable b.stepped p) → Working m gate from b → Working m2 gate2 p (record b { sends = sends })
quiet_working m m2 gate gate2 from p b sends none out unread planted step w = record {
  session = no_session m m2 from p b.faults b.session none out w.session;
  planted = planted w.planted;
  step = step w.step;
  read = λ x. absurd (both_ways (has_read p) unread x);
}

-- and so does what holds of the master and the gate, where the gate's number stays
pub lead_on : (limit m m2 gate : ℕ) (from p : Phase) (b : Told) (sends : ℕ) → LeadFits limit m gate from b → KeepsInRange limit b.harts m2 p → is_shut from ≡ is_shut p → is_at_gate from ≡ is_at_gate p → is_in_session from ≡ false → (is_before_opening p ≡ true → (b.over || at_master m2 (has_bit b.traps)) ≡ true) → sends + called b.harts m from ≤ b.sends + called b.harts m2 p → ((f : Bool) (at : Stage) → stage_fits f from at ≡ false) → is_in_session p ≡ false → has_read p ≡ false → (PlantedFits b.planted b.enabled from → PlantedFits b.planted b.enabled p) → (StepFits b.step b.next b.plantable b.stepped from → StepFits b.step b.next b.plantable b.stepped p) → LeadFits limit m2 gate p (record b { sends = sends })
lead_on limit m m2 gate from p b sends f range shut at_gate inside trap more none out unread planted step = record {
  range = range;
  low = f.low;
  parity = f.parity ∙ ap bit shut;
  mask = λ x. f.mask inside;
  trap = trap;
  lines = subst (λ x. openings gate ≤ b.lines + bit (b.over && not x)) at_gate f.lines;
  sends = omega (arith, f.sends, more);
  working = λ w. quiet_working m m2 gate gate from p b sends none out unread planted step (f.working w);
}

-- no hart is in an empty mask, and none is counted
pub no_marks : (harts mask gate m k : ℕ) (lead p : Phase) → mask ≡ 0 → counts harts lead k ≡ false → MarkFits harts mask gate m lead p k
no_marks harts mask gate m k lead p empty none = record {
  gathered = λ e. absurd (both_ways (counts harts lead k) none ((and_parts (counts harts lead k) (not (m == suc k)) e).0));
  masked = λ e. absurd (both_ways (has_bit mask k) (ap (λ x. has_bit x k) empty ∙ has_bit-zero k) e);
}

-- hart h takes the master word, or frees it, while no hart is in the mask; the master's phase is then the one that it goes to
pub master_changes : (c : Configuration) (h master : ℕ) (p : Phase) → Sound c → c.told.mask ≡ 0 → c.own h ≡ own_word p → is_finished p ≡ false → KeepsOldNumber c.gate p → ((k : ℕ) → counts c.told.harts p k ≡ false) → master ≤ c.told.harts → is_masters p ≡ (master == suc h) → ((k : ℕ) → (k ≡ h → ⊥) → (c.master == suc k) ≡ (master == suc k)) → lead_of master (put c.phase h p) ≡ p → LeadFits c.limit master c.gate p c.told → Sound (record c { master = master; phase = put c.phase h p })
master_changes c h master p s empty own unfinished old none few masters others leads lead =
    moved c h p p c.turn master c.gate c.own (put c.phase h p) c.place c.told s (record {
      told = s.told;
      mask = s.mask;
      turns = s.turn;
      few = few;
      phase_moves = put_moves c.phase h p;
      own_moves = stays c.own h (own_word p) own;
      gate_grows = omega arith;
      over_stays = λ o. o;
      same_master = others;
      here = record { own_word = refl; finished = λ f. absurd (both_ways (is_finished p) unfinished f); masters = masters; old_number = old };
      leads = leads;
      mark = no_marks c.told.harts c.told.mask c.gate master h p p empty (none h);
      marks = λ k ne. no_marks c.told.harts c.told.mask c.gate master k p (c.phase k) empty (none k);
      lead_fits = lead;
    })

pub elected : (c : Configuration) (h : ℕ) → Sound c → h < c.told.harts → c.phase h ≡ phase.Want → c.master ≡ 0 → Sound (record c { master = suc h; phase = put c.phase h phase.Own })
elected c h s lt e free =
    let lead : LeadFits c.limit 0 c.gate phase.Run c.told =
    subst (λ m. LeadFits c.limit m c.gate (lead_of m c.phase) c.told) free s.lead in
    master_changes c h (suc h) phase.Own s (lead.mask refl) (own_of c h phase.Want s e) refl tt (λ k. refl) (omega (arith, lt)) (sym (eq-eqb (suc h) (suc h) refl))
    (λ k ne. ne_eqb c.master (suc k) (λ x. omega (arith, x, free)) ∙ sym (ne_eqb (suc h) (suc k) (λ x. ne (omega (arith, x)))))
    (put_same c.phase h phase.Own) (lead_on c.limit 0 (suc h) c.gate phase.Run phase.Own c.told c.told.sends lead tt refl refl refl (λ x. absurd (both_ways false refl x)) (omega arith) (λ f at. refl) refl refl (λ x. x) (λ x. x))

want_in : (c : Configuration) (h : ℕ) → Sound c → h < c.told.harts → c.phase h ≡ phase.Want → (free : Bool) → (c.master == 0) ≡ free → Sound (if free then record c { master = suc h; phase = put c.phase h phase.Own } else c)
want_in c h s lt e true t = elected c h s lt e (eqb-true c.master 0 t)
want_in c h s lt e false t = s

pub want_keeps : KeepsIn phase.Want
want_keeps c h a after s lt e honest = tick_at c h phase.Want a after e (want_in c h s lt e (c.master == 0) refl)
