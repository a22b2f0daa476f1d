-- The gathering: a look at the next hart's word, and the end of a round.
use Rattle.std.proofs.Common.{◌≡◌, ℕ, suc, zero, ◌+◌, ◌-◌, ◌^◌, ◌<◌, ◌≤◌, ◌==◌, ◌||◌, Bool, true, false, not, nat_lt, refl, sym, ◌∙◌, ap, subst, inl, inr, arith, if◌then◌else◌, Option, Some, None}
use Rattle.std.proofs.lemmas.Bool.{cases_eq, cases_Bool, ne_eqb, eqb-true, ltb-true, both_ways, and_parts, and_from, or_cases, not-true, not-false, cond-true, cond-false}
use Rattle.mach_base.specs.Masks.{has_bit, mask_with, all_but, least_outside}
use Rattle.deck_core.specs.ticks.Phases.{is_masters, own_word, is_shut, is_in_session, has_read, is_at_gate, is_marked, KeepsOldNumber, counts, called}
use Rattle.deck_core.specs.contract.Told.{Told}
use Rattle.deck_core.specs.ticks.Configuration.{Configuration}
use Rattle.deck_core.specs.ticks.NextPhase.{entering, gathered_after, looks_on, round_over, after_look}
use Rattle.deck_core.specs.ticks.Tick.{mark_counts, enters}
use Rattle.deck_core.specs.Invariant.{Sound, LeadFits, KeepsInRange, PlantedFits, StepFits}
use Rattle.deck_core.specs.declared.plain.phase.Phase.{Phase}
use Rattle.deck_core.specs.declared.plain.phase.Phase.TheVariants as phase
use Rattle.deck_core.specs.declared.plain.phase.Looks.{Looks}
use Rattle.deck_core.specs.laws.Keeps.{KeepsIn}
use Rattle.mach_base.proofs.Bits.{has_bit-with_same, has_bit-with_other, has_bit-all_but_inside, mask_with-lt}
use Rattle.deck_core.proofs.Frame.{Mine, mine, master_moves}
use Rattle.deck_core.proofs.Transactions.{tick_at}
use Rattle.deck_core.proofs.Outside.{lead_on}
use Rattle.deck_core.proofs.Elects.{late_others, own_stays}

-- what the search finds is in its range, and isn't in the mask
pub least_outside_finds : (count from mask k : ℕ) → least_outside count from mask ≡ Some k → (k < from + count) × (has_bit mask k ≡ false)
least_outside_finds zero from mask k e = absurd (cc)
least_outside_finds (suc count) from mask k e =
    let rest : Option ℕ = least_outside count (from + 1) mask in
    elim (cases_Bool (has_bit mask from)) [
      | inl t ↦
          let r = least_outside_finds count (from + 1) mask k (sym (cond-true (has_bit mask from) rest (Some from) t) ∙ e) in
          (omega (arith, r.0), r.1)
      | inr t ↦
          let same : Some from ≡ Some k = sym (cond-false (has_bit mask from) rest (Some from) t) ∙ e in
          let eq : from ≡ k = cc in
          (omega (arith, eq), subst (λ x. has_bit mask x ≡ false) eq t)
    ]

-- a hart outside a master's phase whose word counts is marked
word_counts : (gate : ℕ) (p : Phase) → 3 ≤ gate → is_masters p ≡ false → KeepsOldNumber gate p → ((own_word p == 1) || (own_word p == gate)) ≡ true → is_marked gate p ≡ true
word_counts gate phase.Want low n o e = refl
word_counts gate (phase.Parked at) low n o e =
    elim (or_cases (at == 1) (at == gate) e) [ inl x ↦ absurd (omega (arith, eqb-true at 1 x, o.low)) | inr x ↦ x ]
word_counts gate (phase.Unmark at) low n o e =
    elim (or_cases (at == 1) (at == gate) e) [ inl x ↦ absurd (omega (arith, eqb-true at 1 x, o.0.low)) | inr x ↦ absurd (omega (arith, eqb-true at gate x, o.1)) ]
word_counts gate phase.Run low n o e = absurd (omega (arith, eqb-true 0 gate e))
word_counts gate phase.Called low n o e = absurd (omega (arith, eqb-true 0 gate e))
word_counts gate (phase.Mark at) low n o e = absurd (omega (arith, eqb-true 0 gate e))
word_counts gate phase.Wish low n o e = absurd (omega (arith, eqb-true 0 gate e))
word_counts gate phase.Finished low n o e = absurd (omega (arith, eqb-true 0 gate e))
word_counts gate _ low n o e = absurd (both_ways true n refl)

-- what is known of the harts that are gathered after a look
record Gathered (c : Configuration) (h : ℕ) (gathered : ℕ) : Type 0 where
  small : gathered < 2 ^ c.told.harts
  others : (k : ℕ) → has_bit gathered k ≡ true → (suc h == suc k) ≡ false
  marked : (k : ℕ) → has_bit gathered k ≡ true → is_marked c.gate (c.phase k) ≡ true

gathered_in : (c : Configuration) (h : ℕ) (looks : Looks) → Sound c → c.phase h ≡ phase.Gather looks → (seen : Bool) → mark_counts c looks.next ≡ seen → Gathered c h (gathered_after looks seen)
gathered_in c h looks s e false t =
    let i : Mine c h (phase.Gather looks) = mine c h (phase.Gather looks) s e refl in
    record {
      small = i.lead.range.gathered;
      others = i.lead.range.others;
      marked = λ k x. (i.marks k).gathered (and_from (has_bit looks.gathered k) (not (suc h == suc k)) x (ap not (i.lead.range.others k x)));
    }
gathered_in c h looks s e true t =
    let i : Mine c h (phase.Gather looks) = mine c h (phase.Gather looks) s e refl in
    let other : (suc h == suc looks.next) ≡ false = i.lead.range.next.other in
    let low : 3 ≤ c.gate = omega (arith, i.lead.low, i.lead.parity) in
    let outside : is_masters (c.phase looks.next) ≡ false =
    (s.harts looks.next).masters ∙ (ap (λ m. m == suc looks.next) i.master ∙ other) in
    let here : is_marked c.gate (c.phase looks.next) ≡ true =
    word_counts c.gate (c.phase looks.next) low outside (s.harts looks.next).old_number
    (subst (λ w. ((w == 1) || (w == c.gate)) ≡ true) (s.harts looks.next).own_word t) in
    let before : Gathered c h looks.gathered = record {
      small = i.lead.range.gathered;
      others = i.lead.range.others;
      marked = λ k x. (i.marks k).gathered (and_from (has_bit looks.gathered k) (not (suc h == suc k)) x (ap not (i.lead.range.others k x)));
    } in
    record {
      small = mask_with-lt c.told.harts looks.gathered looks.next i.lead.range.gathered i.lead.range.next.below;
      others = λ k x. elim (cases_eq k looks.next) [
        | inl q ↦ subst (λ j. (suc h == suc j) ≡ false) (sym q) other
        | inr q ↦ before.others k (sym (has_bit-with_other looks.gathered looks.next k q) ∙ x)
      ];
      marked = λ k x. elim (cases_eq k looks.next) [
        | inl q ↦ subst (λ j. is_marked c.gate (c.phase j) ≡ true) (sym q) here
        | inr q ↦ before.marked k (sym (has_bit-with_other looks.gathered looks.next k q) ∙ x)
      ];
    }

-- from the gathering to the gathering, or to the opening of the session
gather_lead : (limit h gate : ℕ) (looks : Looks) (p : Phase) (b : Told) → LeadFits limit (suc h) gate (phase.Gather looks) b → KeepsInRange limit b.harts (suc h) p → true ≡ is_shut p → true ≡ is_at_gate p → b.harts - 1 ≡ called b.harts (suc h) p → is_in_session p ≡ false → has_read p ≡ false → (b.planted ≡ b.enabled → PlantedFits b.planted b.enabled p) → (b.step ≡ None → StepFits b.step b.next b.plantable b.stepped p) → LeadFits limit (suc h) gate p b
gather_lead limit h gate looks p b f range shut at_gate all =
    lead_on limit (suc h) (suc h) gate (phase.Gather looks) p b b.sends f range shut at_gate refl (λ x. f.trap refl) (omega (arith, all)) (λ x at. refl)

-- the gathering goes on
gathers_on : (c : Configuration) (h : ℕ) (looks : Looks) (rounds next gathered : ℕ) → Sound c → c.phase h ≡ phase.Gather looks → Gathered c h gathered → rounds < c.limit → next < c.told.harts → has_bit (mask_with gathered h) next ≡ false → Sound (enters h (phase.Gather (record { rounds = rounds; next = next; gathered = gathered })) c)
gathers_on c h looks rounds next gathered s e g less below out =
    let i : Mine c h (phase.Gather looks) = mine c h (phase.Gather looks) s e refl in
    let p : Phase = phase.Gather (record { rounds = rounds; next = next; gathered = gathered }) in
    master_moves c h (phase.Gather looks) p c.gate c.own s i
    (own_stays c h (phase.Gather looks) p c.gate c.told s e refl refl tt (omega arith)
    (λ k ne. record {
      gathered = λ x. g.marked k ((and_parts (has_bit gathered k) (not (suc h == suc k)) x).0);
      masked = (i.marks k).masked;
    })
    (gather_lead c.limit h c.gate looks p c.told i.lead
    (record {
      next = record {
        below = below;
        other = ne_eqb (suc h) (suc next) (λ x.
            let same : next ≡ h = omega (arith, x) in
            both_ways (has_bit (mask_with gathered h) next) out (ap (has_bit (mask_with gathered h)) same ∙ has_bit-with_same gathered h));
      };
      rounds = less;
      gathered = g.small;
      others = g.others;
    })
    refl refl refl refl refl (λ x. x) (λ x. x)))

-- the gathering ends
gathers_no_more : (c : Configuration) (h : ℕ) (looks : Looks) (gathered : ℕ) → Sound c → c.phase h ≡ phase.Gather looks → Gathered c h gathered → Sound (enters h (entering c.told.harts h gathered) c)
gathers_no_more c h looks gathered s e g =
    let i : Mine c h (phase.Gather looks) = mine c h (phase.Gather looks) s e refl in
    let late : ℕ = all_but c.told.harts (mask_with gathered h) in
    master_moves c h (phase.Gather looks) (entering c.told.harts h gathered) c.gate c.own s i
    (own_stays c h (phase.Gather looks) (entering c.told.harts h gathered) c.gate c.told s e refl refl tt (omega arith)
    (λ k ne. record {
      gathered = λ x.
          let p = and_parts (nat_lt k c.told.harts) (not (has_bit late k)) ((and_parts (counts c.told.harts (entering c.told.harts h gathered) k) (not (suc h == suc k)) x).0) in
          let in_time : has_bit late k ≡ false = not-true (has_bit late k) p.1 in
          let was : has_bit (mask_with gathered h) k ≡ true =
          not-false (has_bit (mask_with gathered h) k) (sym (has_bit-all_but_inside c.told.harts (mask_with gathered h) k (ltb-true k c.told.harts p.0)) ∙ in_time) in
          g.marked k (sym (has_bit-with_other gathered h k ne) ∙ was);
      masked = (i.marks k).masked;
    })
    (gather_lead c.limit h c.gate looks (entering c.told.harts h gathered) c.told i.lead (late_others c.told.harts h gathered g.small i.below)
    refl refl refl refl refl (λ x. x) (λ x. x)))

round_in : (c : Configuration) (h : ℕ) (looks : Looks) (gathered : ℕ) → Sound c → c.phase h ≡ phase.Gather looks → Gathered c h gathered → (found : Option ℕ) → least_outside c.told.harts 0 (mask_with gathered h) ≡ found → Sound (enters h (round_over c.limit c.told.harts h looks gathered found) c)
round_in c h looks gathered s e g None t = gathers_no_more c h looks gathered s e g
round_in c h looks gathered s e g (Some k) t =
    let found = least_outside_finds c.told.harts 0 (mask_with gathered h) k t in
    let f : Bool → Configuration = λ b. enters h (if b then phase.Gather (record { rounds = looks.rounds + 1; next = k; gathered = gathered }) else entering c.told.harts h gathered) c in
    elim (cases_Bool (nat_lt (looks.rounds + 1) c.limit)) [
      | inl more ↦ subst (λ b. Sound (f b)) (sym more)
          (gathers_on c h looks (looks.rounds + 1) k gathered s e g (ltb-true (looks.rounds + 1) c.limit more) (omega (arith, found.0)) found.1)
      | inr done ↦ subst (λ b. Sound (f b)) (sym done) (gathers_no_more c h looks gathered s e g)
    ]

look_in : (c : Configuration) (h : ℕ) (looks : Looks) (gathered : ℕ) → Sound c → c.phase h ≡ phase.Gather looks → Gathered c h gathered → (found : Option ℕ) → least_outside (c.told.harts - (looks.next + 1)) (looks.next + 1) (mask_with gathered h) ≡ found → Sound (enters h (looks_on c.limit c.told.harts h looks gathered found) c)
look_in c h looks gathered s e g (Some k) t =
    let i : Mine c h (phase.Gather looks) = mine c h (phase.Gather looks) s e refl in
    let found = least_outside_finds (c.told.harts - (looks.next + 1)) (looks.next + 1) (mask_with gathered h) k t in
    gathers_on c h looks looks.rounds k gathered s e g i.lead.range.rounds (omega (arith, found.0, i.lead.range.next.below)) found.1
look_in c h looks gathered s e g None t = round_in c h looks gathered s e g (least_outside c.told.harts 0 (mask_with gathered h)) refl

looked : (c : Configuration) (h : ℕ) (looks : Looks) → Sound c → c.phase h ≡ phase.Gather looks → (seen : Bool) → mark_counts c looks.next ≡ seen → Sound (enters h (after_look c.limit c.told.harts h looks seen) c)
unfolding after_look
looked c h looks s e seen t =
    look_in c h looks (gathered_after looks seen) s e (gathered_in c h looks s e seen t)
    (least_outside (c.told.harts - (looks.next + 1)) (looks.next + 1) (mask_with (gathered_after looks seen) h)) refl

pub gather_keeps : (looks : Looks) → KeepsIn (phase.Gather looks)
gather_keeps looks c h a after s lt e honest = tick_at c h (phase.Gather looks) a after e (looked c h looks s e (mark_counts c looks.next) refl)
