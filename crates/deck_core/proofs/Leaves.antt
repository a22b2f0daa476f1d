-- The end of a session: it closes, the gate opens, and the master goes.
use Rattle.std.proofs.Common.{◌≡◌, ℕ, suc, ◌+◌, ◌-◌, ◌*◌, ◌%◌, ◌<◌, ◌≤◌, ◌&&◌, Bool, true, false, refl, sym, ◌∙◌, ap, subst, inl, inr, arith, Option, None}
use Rattle.std.proofs.lemmas.Bool.{cases_Bool, ne_eqb, both_ways}
use Rattle.deck_core.specs.ticks.Phases.{holds}
use Rattle.deck_core.specs.contract.Told.{Told, IsTold}
use Rattle.deck_core.specs.ticks.Configuration.{Configuration, put}
use Rattle.deck_core.specs.ticks.Tick.{gives}
use Rattle.deck_core.specs.Invariant.{Sound, LeadFits, session_fits, bit, openings}
use Rattle.deck_core.specs.declared.plain.notes.Sitting.{Sitting}
use Rattle.deck_core.specs.declared.plain.phase.Phase.TheVariants as phase
use Rattle.deck_core.specs.declared.plain.phase.Kept.{Kept}
use Rattle.deck_core.specs.contract.Calls.{CloseGives}
use Rattle.deck_core.specs.laws.Keeps.{KeepsIn}
use Rattle.deck_core.proofs.Frame.{put_moves, Mine, mine, master_moves, master_gives}
use Rattle.deck_core.proofs.Transactions.{tick_at, call_keeps}
use Rattle.deck_core.proofs.Outside.{own_of, no_marks, quiet_working, lead_on, master_changes}
use Rattle.deck_core.proofs.Elects.{uncounted, own_stays}

-- ---- Close

-- the session is closed, or an ending stands
close_lead : (limit h gate : ℕ) (kept : Kept) (b : Told) (session : Option Sitting) (next : Option ℕ) (plantable : Bool) → (b.over ≡ false → session ≡ None) → LeadFits limit (suc h) gate (phase.Close kept) b → LeadFits limit (suc h) gate phase.OpenGate (record b { mask = 0; session = session; next = next; plantable = plantable })
close_lead limit h gate kept b session next plantable none f = record {
  range = tt;
  low = f.low;
  parity = f.parity;
  mask = λ x. refl;
  trap = λ x. absurd (both_ways false refl x);
  lines = f.lines;
  sends = f.sends;
  working = λ w. record {
    session = ap (session_fits (suc h) phase.OpenGate b.faults) (none w);
    planted = (f.working w).planted;
    step = (f.working w).step;
    read = (f.working w).read;
  };
}

close_in : (c : Configuration) (h : ℕ) (kept : Kept) (session : Option Sitting) (next : Option ℕ) (plantable : Bool) → Sound c → c.phase h ≡ phase.Close kept → holds (c.place h) ≡ true → (c.told.over ≡ false → session ≡ None) → IsTold (record c.told { mask = 0; session = session; next = next; plantable = plantable }) → Sound (gives h phase.OpenGate (record c.told { mask = 0; session = session; next = next; plantable = plantable }) c)
close_in c h kept session next plantable s e held none fits =
    let i : Mine c h (phase.Close kept) = mine c h (phase.Close kept) s e refl in
    let b : Told = record c.told { mask = 0; session = session; next = next; plantable = plantable } in
    master_gives c h (phase.Close kept) phase.OpenGate b s i
    (own_stays c h (phase.Close kept) phase.OpenGate c.gate b s e refl refl tt (omega arith)
    (λ k ne. no_marks c.told.harts 0 c.gate (suc h) k phase.OpenGate (c.phase k) refl refl) (close_lead c.limit h c.gate kept c.told session next plantable none i.lead)) fits held refl (λ o. o)

close_done : (c : Configuration) (h : ℕ) (kept : Kept) (after : Told) → Sound c → c.phase h ≡ phase.Close kept → holds (c.place h) ≡ true → CloseGives c.told after → IsTold after → Sound (gives h phase.OpenGate after c)
close_done c h kept after s e held g fits =
    elim (cases_Bool c.told.over) [
      | inl o ↦ subst (λ b. Sound (gives h phase.OpenGate b c)) (sym (g.ended o))
          (close_in c h kept c.told.session c.told.next c.told.plantable s e held (λ w. absurd (both_ways c.told.over w o)) (subst IsTold (g.ended o) fits))
      | inr w ↦ subst (λ b. Sound (gives h phase.OpenGate b c)) (sym (g.working w))
          (close_in c h kept None after.next after.plantable s e held (λ x. refl) (subst IsTold (g.working w) fits))
    ]

pub close_keeps : (kept : Kept) → KeepsIn (phase.Close kept)
close_keeps kept c h a after s lt e honest = tick_at c h (phase.Close kept) a after e
    (call_keeps c h (phase.Close kept) a after s e refl honest
    (λ held acts. close_done c h kept after s e held acts.does.1 acts.fits))

-- ---- OpenGate

-- one opening more has its line, or an ending stands
one_more : (over : Bool) (opened lines : ℕ) → opened ≤ lines + bit (over && false) → (over ≡ false → opened < lines) → suc opened ≤ lines + bit (over && true)
one_more true opened lines le lt = omega (arith, le)
one_more false opened lines le lt = omega (arith, lt refl)

open_lead : (limit h gate : ℕ) (b : Told) → LeadFits limit (suc h) gate phase.OpenGate b → LeadFits limit (suc h) (suc gate) phase.Drop b
open_lead limit h gate b f =
    let odd : gate % 2 ≡ 1 = f.parity in
    let more : openings (suc gate) ≡ suc (openings gate) = omega (arith, odd, f.low) in
    record {
      range = tt;
      low = omega (arith, f.low);
      parity = omega (arith, odd);
      mask = λ x. f.mask refl;
      trap = λ x. absurd (both_ways false refl x);
      lines = subst (λ o. o ≤ b.lines + bit (b.over && true)) (sym more) (one_more b.over (openings gate) b.lines f.lines (λ w. (f.working w).read refl));
      sends =
          (let g : b.sends ≤ (b.harts - 1) * openings gate + (b.harts - 1) = f.sends in
          subst (λ o. b.sends ≤ (b.harts - 1) * o + 0) (sym more) (omega (arith, g)));
      working = λ w. quiet_working (suc h) (suc h) gate (suc gate) phase.OpenGate phase.Drop b b.sends (λ x at. refl) refl refl (λ x. x) (λ x. x) (f.working w);
    }

pub open_gate_keeps : KeepsIn phase.OpenGate
open_gate_keeps c h a after s lt e honest = tick_at c h phase.OpenGate a after e
    (let i : Mine c h phase.OpenGate = mine c h phase.OpenGate s e refl in
    master_moves c h phase.OpenGate phase.Drop (suc c.gate) c.own s i
    (own_stays c h phase.OpenGate phase.Drop (suc c.gate) c.told s e refl refl tt (omega arith)
    (λ k ne. no_marks c.told.harts c.told.mask (suc c.gate) (suc h) k phase.Drop (c.phase k) (i.lead.mask refl) refl) (open_lead c.limit h c.gate c.told i.lead)))

-- ---- Drop and Free

pub drop_keeps : KeepsIn phase.Drop
drop_keeps c h a after s lt e honest = tick_at c h phase.Drop a after e
    (let i : Mine c h phase.Drop = mine c h phase.Drop s e refl in
    master_moves c h phase.Drop phase.Free c.gate (put c.own h 0) s i (record {
      next = refl;
      old_number = tt;
      own_moves = put_moves c.own h 0;
      gate_grows = omega arith;
      marks = λ k ne. uncounted c.told.harts c.told.mask c.gate (suc h) k phase.Drop phase.Free (c.phase k) refl (i.marks k);
      lead_fits = lead_on c.limit (suc h) (suc h) c.gate phase.Drop phase.Free c.told c.told.sends i.lead tt refl refl refl (λ x. absurd (both_ways false refl x)) (omega arith) (λ f at. refl) refl refl (λ x. x) (λ x. x);
    }))

pub free_keeps : KeepsIn phase.Free
free_keeps c h a after s lt e honest = tick_at c h phase.Free a after e
    (let i : Mine c h phase.Free = mine c h phase.Free s e refl in
    master_changes c h 0 phase.Run s (i.lead.mask refl) (own_of c h phase.Free s e) refl tt (λ k. refl) (omega arith) (sym (ne_eqb 0 (suc h) (λ x. omega (arith, x))))
    (λ k ne. ne_eqb c.master (suc k) (λ x. ne (omega (arith, x, i.master))) ∙ sym (ne_eqb 0 (suc k) (λ x. omega (arith, x))))
    refl (lead_on c.limit (suc h) 0 c.gate phase.Free phase.Run c.told c.told.sends i.lead tt refl refl refl (λ x. absurd (both_ways false refl x)) (omega arith) (λ f at. refl) refl refl (λ x. x) (λ x. x)))
