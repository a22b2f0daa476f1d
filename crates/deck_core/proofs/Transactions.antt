-- The load of the turn word and its compare and exchange, in any phase; and from a tick in a phase to a tick.
use Rattle.std.proofs.Common.{◌≡◌, ℕ, suc, ◌==◌, ◌&&◌, Bool, true, false, not, refl, sym, ◌∙◌, ap, subst, inl, inr, arith, if◌then◌else◌}
use Rattle.std.proofs.lemmas.Bool.{cases_Bool, eq-eqb, ne_eqb, eqb-true, or_parts, not-false}
use Rattle.mach_base.specs.Masks.{has_bit}
use Rattle.deck_core.specs.plain.Words.{turn_word, mask_of, holder_of}
use Rattle.deck_core.specs.ticks.Phases.{holds, is_in_session}
use Rattle.deck_core.specs.contract.Told.{Told}
use Rattle.deck_core.specs.ticks.Configuration.{Configuration, put}
use Rattle.deck_core.specs.contract.Calls.{HonestCall}
use Rattle.deck_core.specs.ticks.Tick.{tick, tick_in, goes, is_busy, transacts, makes_call, gives}
use Rattle.deck_core.specs.ticks.NextPhase.{act_of, is_transaction, after_answer}
use Rattle.deck_core.specs.laws.Keeps.{PeekKeeps, TakeKeeps}
use Rattle.deck_core.specs.Invariant.{Sound, TurnAt, SeenFree}
use Rattle.deck_core.specs.declared.plain.phase.Phase.{Phase}
use Rattle.deck_core.specs.declared.plain.phase.Place.{Place}
use Rattle.deck_core.specs.declared.plain.phase.Place.TheVariants as place
use Rattle.deck_core.specs.declared.plain.act.Answer.{Answer}
use Rattle.deck_core.proofs.TurnWords.{mask_of-lt, mask_of-turn_word, holder_of-turn_word}
use Rattle.deck_core.proofs.Frame.{put_moves, at_each}

-- the turn and the places alone change
pub turn_moves : (c : Configuration) (turn : ℕ) (places : ℕ → Place) → Sound c → mask_of turn ≡ c.told.mask → ((k : ℕ) → TurnAt turn (places k) k) → Sound (record c { turn = turn; place = places })
turn_moves c turn places s m t = record {
  limit = s.limit;
  told = s.told;
  mask = m;
  turn = t;
  master = s.master;
  harts = s.harts;
  marks = s.marks;
  lead = s.lead;
}

-- hart h, which doesn't hold the turn, goes to a place where it doesn't hold it
pub place_moves : (c : Configuration) (h : ℕ) (at : Place) → Sound c → holds (c.place h) ≡ false → holds at ≡ false → SeenFree at → Sound (goes h at c)
place_moves c h at s before next free =
    turn_moves c c.turn (put c.place h at) s s.mask
    (at_each (λ w k. TurnAt c.turn w k) c.place h at (put c.place h at) (put_moves c.place h at)
    (record { holder = next ∙ (sym before ∙ (s.turn h).holder); seen = free })
    (λ k ne. s.turn k))

pub peek_keeps : PeekKeeps
peek_keeps c h p s e =
    let f : Bool → Configuration = λ b. if b then c else goes h (place.Take c.turn) c in
    elim (cases_Bool (is_busy h p c.turn)) [
      | inl t ↦ subst (λ b. Sound (f b)) (sym t) s
      | inr t ↦ subst (λ b. Sound (f b)) (sym t)
          (place_moves c h (place.Take c.turn) s (ap holds e) refl
          (eqb-true (holder_of c.turn) 0 (not-false (holder_of c.turn == 0)
          ((or_parts (not (holder_of c.turn == 0)) (has_bit (mask_of c.turn) h && not (is_in_session p)) t).0))))
    ]

pub take_keeps : TakeKeeps
take_keeps c h seen s e =
    let taken : Configuration = record c { turn = turn_word (mask_of c.turn) (suc h); place = put c.place h place.Give } in
    let f : Bool → Configuration = λ b. if b then taken else goes h place.Peek c in
    let before : SeenFree (place.Take seen) = subst SeenFree e (s.turn h).seen in
    elim (cases_Bool (c.turn == seen)) [
      | inl t ↦ subst (λ b. Sound (f b)) (sym t)
          (let free : holder_of c.turn ≡ 0 = ap holder_of (eqb-true c.turn seen t) ∙ before in
          let holder : holder_of (turn_word (mask_of c.turn) (suc h)) ≡ suc h = holder_of-turn_word (mask_of c.turn) (suc h) (mask_of-lt c.turn) in
          turn_moves c (turn_word (mask_of c.turn) (suc h)) (put c.place h place.Give) s
          (mask_of-turn_word (mask_of c.turn) (suc h) (mask_of-lt c.turn) ∙ s.mask)
          (at_each (λ w k. TurnAt (turn_word (mask_of c.turn) (suc h)) w k) c.place h place.Give (put c.place h place.Give) (put_moves c.place h place.Give)
          (record { holder = sym (eq-eqb _ (suc h) holder); seen = tt })
          (λ k ne. record {
            holder = (s.turn k).holder
                ∙ (ne_eqb (holder_of c.turn) (suc k) (λ x. omega (arith, x, free))
                ∙ sym (ne_eqb (holder_of (turn_word (mask_of c.turn) (suc h))) (suc k) (λ x. ne (omega (arith, x, holder)))));
            seen = (s.turn k).seen;
          })))
      | inr t ↦ subst (λ b. Sound (f b)) (sym t) (place_moves c h place.Peek s (ap holds e) refl tt)
    ]

-- a tick by the hart's phase
pub tick_at : (c : Configuration) (h : ℕ) (p : Phase) (a : Answer) (after : Told) → c.phase h ≡ p → Sound (tick_in p h a after c) → Sound (tick h a after c)
unfolding tick
tick_at c h p a after e s = subst (λ q. Sound (tick_in q h a after c)) (sym e) s

-- a transaction keeps the invariant where its last tick does
pub transaction_keeps : (c : Configuration) (h : ℕ) (p : Phase) (at : Place) (a : Answer) (after : Told) → Sound c → c.place h ≡ at → (holds (c.place h) ≡ true → Sound (gives h (after_answer c.told.harts h p a) after c)) → Sound (transacts h p at a after c)
transaction_keeps c h p place.Peek a after s e g = peek_keeps c h p s e
transaction_keeps c h p (place.Take seen) a after s e g = take_keeps c h seen s e
transaction_keeps c h p place.Give a after s e g = g (ap holds e)

-- the same, with the call of a phase that is a transaction
pub call_keeps : (c : Configuration) (h : ℕ) (p : Phase) (a : Answer) (after : Told) → Sound c → c.phase h ≡ p → is_transaction p ≡ true → (makes_call h c ≡ true → HonestCall (act_of h (c.phase h)) c.told a after) → (holds (c.place h) ≡ true → HonestCall (act_of h p) c.told a after → Sound (gives h (after_answer c.told.harts h p a) after c)) → Sound (transacts h p (c.place h) a after c)
call_keeps c h p a after s e t honest g =
    transaction_keeps c h p (c.place h) a after s refl
    (λ held. g held (subst (λ q. HonestCall (act_of h q) c.told a after) e
    (honest (ap (λ b. b && holds (c.place h)) (ap is_transaction e ∙ t) ∙ held))))
