-- Lists of ticks with their bus.
use Rattle.std.proofs.Common.{◌≡◌, ℕ, Bool, true, false, List, [], ◌∷◌, refl, sym, ◌∙◌, ap, subst}
use Rattle.deck_core.specs.contract.Told.{Told}
use Rattle.deck_core.specs.ticks.Configuration.{Configuration}
use Rattle.deck_core.specs.ticks.NextPhase.{act_of}
use Rattle.deck_core.specs.ticks.Tick.{tick, makes_call}
use Rattle.deck_core.specs.ticks.Run.{BusMoves, RunsWith, IsOrderOver, call_if, ticks_of}
use Rattle.deck_core.specs.laws.Runs.{RunsAreTicks, RunsKeep, RunsAreExact}
use Rattle.deck_core.specs.declared.plain.act.Act.{Act}
use Rattle.deck_core.specs.declared.plain.act.Answer.{Answer}
use Rattle.deck_core.specs.declared.plain.act.Answer.TheVariants as answer
use Rattle.deck_core.proofs.Steps.{quiet_tick}

module _ {B : Type 0} (told : B → Told) (does : Act → B → Answer → B → Type 0) where
  pub runs_are_ticks : RunsAreTicks told does
  runs_are_ticks [] c last b end r = r.0
  runs_are_ticks (h ∷ plan) c last b end r =
      let t = r.1.1.1.0 in
      (r.0, (r.1.0, (record { answer = t.0; after = told r.1.1.0; honest = t.1.0.honest; ticked = t.1.0.ticked }, runs_are_ticks plan r.1.0 last r.1.1.0 end r.1.1.1.1)))

  -- a relation that holds from each bus to itself, on over each call, and so over a run
  module _ (grows : B → B → Type 0) (order : IsOrderOver does grows) where
    moved_grows : (made : Bool) (act : Act) (b after : B) (a : Answer) → BusMoves does made act b a after → grows b after
    moved_grows true act b after a m = order.over act b after a m
    moved_grows false act b after a m = subst (grows b) (sym m) (order.here b)

    pub runs_keep : RunsKeep told does grows
    runs_keep [] c last b end r = subst (grows b) (sym r.1) (order.here b)
    runs_keep (h ∷ plan) c last b end r =
        let t = r.1.1.1.0 in
        order.on b r.1.1.0 end (moved_grows (makes_call h c) (act_of h (c.phase h)) b r.1.1.0 t.0 t.1.1) (runs_keep plan r.1.0 last r.1.1.0 end r.1.1.1.1)

  module _ {S : Type 0} (is_lost : B → Bool) (state : B → S) (told_in : S → Told) (called : Act → S → Answer × S) (tells : (b : B) → is_lost b ≡ false → told b ≡ told_in (state b)) (unlost : (act : Act) (b after : B) (a : Answer) → does act b a after → is_lost after ≡ false → is_lost b ≡ false) (exact : (act : Act) (b after : B) (a : Answer) → does act b a after → is_lost after ≡ false → (a, state after) ≡ called act (state b)) where
    moved_unlost : (made : Bool) (act : Act) (b after : B) (a : Answer) → BusMoves does made act b a after → is_lost after ≡ false → is_lost b ≡ false
    moved_unlost true act b after a m = unlost act b after a m
    moved_unlost false act b after a m = subst (λ x. is_lost x ≡ false → is_lost b ≡ false) (sym m) (λ e. e)

    run_unlost : (plan : List ℕ) (c last : Configuration) (b end : B) → RunsWith told does plan c b last end → is_lost end ≡ false → is_lost b ≡ false
    run_unlost [] c last b end r e = ap is_lost (sym r.1) ∙ e
    run_unlost (h ∷ plan) c last b end r e =
        let t = r.1.1.1.0 in
        moved_unlost (makes_call h c) (act_of h (c.phase h)) b r.1.1.0 t.0 t.1.1 (run_unlost plan r.1.0 last r.1.1.0 end r.1.1.1.1 e)

    -- the pair after a call
    after_call : ℕ → Configuration → Answer × S → Configuration × S
    after_call h c r = (tick h r.0 (told_in r.1) c, r.1)

    -- one tick
    moved_exact : (made : Bool) (h : ℕ) (c next : Configuration) (b after : B) (a : Answer) → makes_call h c ≡ made → BusMoves does made (act_of h (c.phase h)) b a after → is_lost after ≡ false → next ≡ tick h a (told after) c → ◌≡◌ {A = Configuration × S} (next, state after) (after_call h c (call_if made (called (act_of h (c.phase h)) (state b)) (state b)))
    unfolding after_call
    moved_exact true h c next b after a e m kept n =
        let with : Configuration → Configuration × S = λ x. (x, state after) in
        ap with (n ∙ ap (λ x. tick h a x c) (tells after kept)) ∙ ap (after_call h c) (exact (act_of h (c.phase h)) b after a m kept)
    moved_exact false h c next b after a e m kept n =
        let with : Configuration → Configuration × S = λ x. (x, state after) in
        let stays : B → Configuration × S = λ x. (tick h answer.Send (told_in (state b)) c, state x) in
        ap with (n ∙ quiet_tick h a answer.Send (told after) (told_in (state b)) c e) ∙ ap stays m

    pub runs_are_exact : RunsAreExact told does is_lost state told_in called
    unfolding after_call
    runs_are_exact [] c last b end r kept =
        let with : Configuration → Configuration × S = λ x. (x, state end) in
        let here : B → Configuration × S = λ x. (c, state x) in
        ap with r.0 ∙ ap here r.1
    runs_are_exact (h ∷ plan) c last b end r kept =
        let t = r.1.1.1.0 in
        runs_are_exact plan r.1.0 last r.1.1.0 end r.1.1.1.1 kept
        ∙ ap (ticks_of told_in called plan)
        (moved_exact (makes_call h c) h c r.1.0 b r.1.1.0 t.0 refl t.1.1 (run_unlost plan r.1.0 last r.1.1.0 end r.1.1.1.1 kept) t.1.0.ticked)
