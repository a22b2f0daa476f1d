-- A hart whose trap is gone when it is checked: the way back.
use Rattle.std.proofs.Common.{◌≡◌, ℕ, suc, zero, ◌+◌, ◌<◌, ◌≤◌, ◌==◌, ◌&&◌, Bool, true, false, List, [], ◌∷◌, Option, Some, None, refl, sym, ◌∙◌, ap, subst, inl, inr, arith, if◌then◌else◌}
use Rattle.std.proofs.lemmas.Bool.{cases_eq, eq-eqb, ne_eqb, both_ways, and_parts}
use Rattle.mach_base.specs.Masks.{has_bit}
use Rattle.deck_core.specs.ticks.Configuration.{Configuration}
use Rattle.deck_core.specs.ticks.Phases.{late_of}
use Rattle.deck_core.specs.ticks.Tick.{Ticks, TicksAll}
use Rattle.deck_core.specs.Invariant.{Sound, session_fits, stage_fits}
use Rattle.deck_core.specs.laws.Runs.{GoneTrapGoesBack, ticks_by, way_back}
use Rattle.deck_core.specs.declared.plain.phase.Phase.{Phase}
use Rattle.deck_core.specs.declared.plain.phase.Phase.TheVariants as phase
use Rattle.deck_core.specs.declared.plain.notes.Sitting.{Sitting}
use Rattle.deck_core.proofs.Frame.{Mine, mine}
use Rattle.deck_core.proofs.Conditions.{gone_trap_drops}
use Rattle.deck_core.proofs.EveryTick.{every_tick_keeps}
use Rattle.deck_core.proofs.Steps.{tick_moves, phase_next}

-- the other harts' phases stay over a tick
pub others_stay : (c next : Configuration) (h k : ℕ) → Ticks h c next → (k ≡ h → ⊥) → next.phase k ≡ c.phase k
others_stay c next h k t ne = ap (λ n. n.phase k) t.ticked ∙ (tick_moves c h t.answer t.after).1.phases.others k ne

-- the hart's own phase is the next one
pub own_next : (c next : Configuration) (h : ℕ) (t : Ticks h c next) → next.phase h ≡ phase_next h t.answer c (c.phase h)
own_next c next h t = ap (λ n. n.phase h) t.ticked ∙ (tick_moves c h t.answer t.after).1.phases.here

-- one tick on the way back
one_back : (c next : Configuration) (h i : ℕ) → Ticks h c next → c.phase h ≡ way_back i → i < 2 → next.phase h ≡ way_back (suc i)
one_back c next h zero t e few = own_next c next h t ∙ ap (phase_next h t.answer c) e
one_back c next h (suc zero) t e few = own_next c next h t ∙ ap (phase_next h t.answer c) e
one_back c next h (suc (suc i)) t e few = absurd (omega arith)

pub record Back (h i : ℕ) (last : Configuration) : Type 0 where
  pub phase : last.phase h ≡ way_back i
  pub sound : Sound last

back_from : (h i : ℕ) (plan : List ℕ) (c last : Configuration) → Sound c → c.phase h ≡ way_back i → TicksAll plan c last → i + ticks_by h plan ≤ 2 → Back h (i + ticks_by h plan) last
back_from h i [] c last s e r few = subst (Back h (i + 0)) (sym r) (record { phase = e ∙ ap way_back (omega arith); sound = s })
back_from h i (k ∷ plan) c last s e r few =
    let next : Configuration = r.1.0 in
    let sound : Sound next = every_tick_keeps c k next s r.0 r.1.1.0 in
    let n : ℕ = ticks_by h plan in
    elim (cases_eq k h) [
      | inl same ↦
          let more : ticks_by h (k ∷ plan) ≡ suc n = ap (λ b. if b then suc n else n) (eq-eqb k h same) in
          let e2 : next.phase h ≡ way_back (suc i) = one_back c next h i (subst (λ j. Ticks j c next) same r.1.1.0) e (omega (arith, more, few)) in
          subst (λ j. Back h j last) (omega (arith, more)) (back_from h (suc i) plan next last sound e2 r.1.1.1 (omega (arith, more, few)))
      | inr ne ↦
          let less : ticks_by h (k ∷ plan) ≡ n = ap (λ b. if b then suc n else n) (ne_eqb k h ne) in
          let e2 : next.phase h ≡ way_back i = others_stay c next k h r.1.1.0 (λ x. ne (sym x)) ∙ e in
          subst (λ j. Back h j last) (omega (arith, less)) (back_from h i plan next last sound e2 r.1.1.1 (omega (arith, less, few)))
    ]

-- a master on its way back holds no session
none_open : (master : ℕ) (p : Phase) (faults : ℕ) (session : Option Sitting) → ((faulting : Bool) (sitting : Sitting) → stage_fits faulting p sitting.stage ≡ false) → session_fits master p faults session ≡ true → session ≡ None
none_open master p faults None out e = refl
none_open master p faults (Some sitting) out e =
    absurd (both_ways (stage_fits (has_bit faults sitting.master.0) p sitting.stage) (out (has_bit faults sitting.master.0) sitting)
    (and_parts ((master == suc sitting.master.0) && (sitting.late == late_of p)) (stage_fits (has_bit faults sitting.master.0) p sitting.stage) e).1)

no_session : (c : Configuration) (h i : ℕ) → Sound c → c.phase h ≡ way_back i → i < 2 → c.told.over ≡ false → c.told.session ≡ None
no_session c h zero s e few w =
    let m : Mine c h phase.Drop = mine c h phase.Drop s e refl in
    none_open (suc h) phase.Drop c.told.faults c.told.session (λ f sitting. refl) (m.lead.working w).session
no_session c h (suc zero) s e few w =
    let m : Mine c h phase.Free = mine c h phase.Free s e refl in
    none_open (suc h) phase.Free c.told.faults c.told.session (λ f sitting. refl) (m.lead.working w).session
no_session c h (suc (suc i)) s e few w = absurd (omega arith)

pub gone_trap_goes_back : GoneTrapGoesBack
gone_trap_goes_back c last h plan s own call gone r few =
    let next : Configuration = r.1.0 in
    let drops : next.phase h ≡ phase.Drop = gone_trap_drops c h next s own call gone r.1.1.0 in
    let b : Back h (0 + ticks_by h plan) last = back_from h 0 plan next last (every_tick_keeps c h next s r.0 r.1.1.0) drops r.1.1.1 (omega (arith, few)) in
    let same : 0 + ticks_by h plan ≡ ticks_by h plan = omega arith in
    (b.phase ∙ ap way_back same, λ less w. no_session last h (ticks_by h plan) b.sound (b.phase ∙ ap way_back same) less w)
