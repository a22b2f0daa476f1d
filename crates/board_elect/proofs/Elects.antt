-- Each election step is a tick.
use Rattle.std.proofs.Common.{◌≡◌, ℕ, suc, ◌+◌, ◌<◌, ◌==◌, ◌||◌, true, false, List, set, refl, sym, ◌∙◌, ap, subst, inl, inr, arith}
use Rattle.std.proofs.lemmas.Bool.{both_ways, cases_eq, cond-true, cond-false, eq-eqb, ne_eqb, and_left}
use Rattle.std.proofs.lemmas.List.{get_or-set_same, get_or-set_other}
use Rattle.deck_core.specs.contract.Told.{Told}
use Rattle.deck_core.specs.decks.Seat.{clears, looks_in, sees_gate}
use Rattle.deck_core.specs.ticks.Configuration.{Configuration, put}
use Rattle.deck_core.specs.ticks.NextPhase.{after_clear, after_look, after_shut, is_transaction}
use Rattle.deck_core.specs.ticks.Phases.{holds}
use Rattle.deck_core.specs.ticks.Tick.{Ticks, enters, mark_counts, tick, turns_gate, writes}
use Rattle.deck_core.specs.declared.plain.act.Answer.{Answer}
use Rattle.deck_core.specs.declared.plain.phase.Looks.{Looks}
use Rattle.deck_core.specs.declared.plain.phase.Phase.{Phase}
use Rattle.deck_core.specs.declared.plain.phase.Phase.TheVariants as phase
use Rattle.deck_core.proofs.Flats.{clear_ticks, gate_ticks, look_ticks, put_again, quiet}
use Rattle.deck_core.proofs.Frame.{put_other, put_same}
use Rattle.deck_core.proofs.Steps.{quiet_tick}
use Rattle.board_turn.specs.declared.view.View.{View}
use Rattle.board_turn.specs.declared.words.TheConstants.{TURN, MASTER, GATE, OWN, WORDS}
use Rattle.board_turn.specs.Plays.{moved_to}
use Rattle.board_turn.specs.Shown.{shown, word}
use Rattle.board_turn.proofs.Lists.{reload}
use Rattle.board_turn.proofs.Shows.{same_words, shown-phase, shown-told, shown-limit, shown_enters, shown_step}
use Rattle.board_elect.specs.Plays.{after_try, after_shutting, after_looking, after_seeing, is_counted, to_phase}
use Rattle.board_elect.specs.Steps.{Stands, WantIsTick, TryIsTick, LoseIsTick, ClearIsTick, FreeIsTick, ShutIsTick, LookIsTick, OpenGateIsTick, SeeGateIsTick, MarkIsTick}

-- a tick without a call doesn't read the answer
pub any_answer : (c next : Configuration) (h : ℕ) (a : Answer) (after : Told) → is_transaction (c.phase h) ≡ false → Ticks h c next → next ≡ tick h a after c
any_answer c next h a after out t = t.ticked ∙ quiet_tick h t.answer a t.after after c (and_left (is_transaction (c.phase h)) (holds (c.place h)) out)

pub clears_out : (p : Phase) → clears p ≡ true → is_transaction p ≡ false
clears_out (phase.Unmark gate) e = refl
clears_out phase.Drop e = refl
clears_out _ e = absurd (both_ways false refl e)

pub sees_out : (p : Phase) → sees_gate p ≡ true → is_transaction p ≡ false
sees_out phase.Called e = refl
sees_out (phase.Parked gate) e = refl
sees_out _ e = absurd (both_ways false refl e)

module _ {B : Type 0} (rounds : ℕ) (words : List ℕ) (views : List (View B)) (b : Told) (h : ℕ) (v : View B) (x : Stands rounds words views b h v) where
  abbrev pub c : Configuration
  c = shown rounds words views b

  pub phase_is : c.phase h ≡ v.at.phase
  phase_is = shown-phase rounds words views b h ∙ ap (λ u. u.at.phase) x.before.view

  harts_is : v.at.harts ≡ c.told.harts
  harts_is = x.harts ∙ ap (λ y. y.harts) (sym (shown-told rounds words views b))

  limit_is : v.at.limit ≡ c.limit
  limit_is = x.limit ∙ sym (shown-limit rounds words views b)

  -- the words after a write to another one
  other : (i j n : ℕ) → (j ≡ i → ⊥) → word (set words i n) j ≡ word words j
  other i j n ne = get_or-set_other words i j n 0 ne

  -- what the board shows after a write to the hart's own word, to the master word, to the gate's, and after a load
  own_shown : (n : ℕ) (w : View B) → w.at.place ≡ v.at.place → shown rounds (set words (OWN + h) n) (set views h w) b ≡ writes h n w.at.phase c
  unfolding shown
  own_shown n w same =
      shown_step rounds words (set words (OWN + h) n) views b b h w c.turn c.master c.gate (put c.own h n) x.before.there
      (other (OWN + h) TURN n (λ e. omega (arith, e))) (other (OWN + h) MASTER n (λ e. omega (arith, e))) (other (OWN + h) GATE n (λ e. omega (arith, e)))
      (λ k.
      elim (cases_eq k h) [
        | inl e ↦ subst (λ j. word (set words (OWN + h) n) (OWN + j) ≡ put c.own h n j) (sym e)
            (get_or-set_same words (OWN + h) n 0 (omega (arith, x.few, x.before.all_words)) ∙ sym (put_same c.own h n))
        | inr ne ↦ other (OWN + h) (OWN + k) n (λ e. ne (omega (arith, e))) ∙ sym (put_other c.own h n k ne)
      ])
      ∙ ap (λ f. record c { own = put c.own h n; phase = put c.phase h w.at.phase; place = f }) (put_again c.place h w.at.place (sym (same ∙ ap (λ u. u.at.place) (sym x.before.view))))

  master_shown : (n : ℕ) (w : View B) → w.at.place ≡ v.at.place → shown rounds (set words MASTER n) (set views h w) b ≡ record c { master = n; phase = put c.phase h w.at.phase }
  unfolding shown
  master_shown n w same =
      shown_step rounds words (set words MASTER n) views b b h w c.turn n c.gate c.own x.before.there
      (other MASTER TURN n (λ e. omega (arith, e))) (get_or-set_same words MASTER n 0 (omega (arith, x.before.all_words))) (other MASTER GATE n (λ e. omega (arith, e)))
      (λ k. other MASTER (OWN + k) n (λ e. omega (arith, e)))
      ∙ ap (λ f. record c { master = n; phase = put c.phase h w.at.phase; place = f }) (put_again c.place h w.at.place (sym (same ∙ ap (λ u. u.at.place) (sym x.before.view))))

  gate_shown : (n : ℕ) (w : View B) → w.at.place ≡ v.at.place → shown rounds (set words GATE n) (set views h w) b ≡ record c { gate = n; phase = put c.phase h w.at.phase }
  unfolding shown
  gate_shown n w same =
      shown_step rounds words (set words GATE n) views b b h w c.turn c.master n c.own x.before.there
      (other GATE TURN n (λ e. omega (arith, e))) (other GATE MASTER n (λ e. omega (arith, e))) (get_or-set_same words GATE n 0 (omega (arith, x.before.all_words)))
      (λ k. other GATE (OWN + k) n (λ e. omega (arith, e)))
      ∙ ap (λ f. record c { gate = n; phase = put c.phase h w.at.phase; place = f }) (put_again c.place h w.at.place (sym (same ∙ ap (λ u. u.at.place) (sym x.before.view))))

  load_shown : (i : ℕ) (w : View B) → i < WORDS → w.at.place ≡ v.at.place → shown rounds (set words i (word words i)) (set views h w) b ≡ enters h w.at.phase c
  load_shown i w lt same =
      ap (λ ws. shown rounds ws (set views h w) b) (reload words i 0 (omega (arith, lt, x.before.all_words)))
      ∙ shown_enters rounds words words views b h w x.before.there (same_words words) (same ∙ ap (λ u. u.at.place) (sym x.before.view))

  pub want_ticks : v.at.phase ≡ phase.Wish → Ticks h c (shown rounds (set words (OWN + h) 1) (set views h (moved_to (to_phase phase.Want v.at) v)) b)
  want_ticks p = quiet c _ h phase.Wish (phase_is ∙ p) refl (own_shown 1 (moved_to (to_phase phase.Want v.at) v) refl)

  pub try_ticks : v.at.phase ≡ phase.Want → word words MASTER ≡ 0 → Ticks h c (shown rounds (set words MASTER (suc h)) (set views h (moved_to (to_phase phase.Own v.at) v)) b)
  unfolding shown
  try_ticks p free =
      let won : Configuration = record c { master = suc h; phase = put c.phase h phase.Own } in
      quiet c _ h phase.Want (phase_is ∙ p) refl (master_shown (suc h) (moved_to (to_phase phase.Own v.at) v) refl ∙ sym (cond-true (c.master == 0) won c (eq-eqb c.master 0 free)))

  pub lose_ticks : v.at.phase ≡ phase.Want → (word words MASTER ≡ 0 → ⊥) → Ticks h c (shown rounds (set words MASTER (word words MASTER)) (set views h (moved_to (to_phase phase.Want v.at) v)) b)
  unfolding shown
  lose_ticks p taken =
      let won : Configuration = record c { master = suc h; phase = put c.phase h phase.Own } in
      quiet c _ h phase.Want (phase_is ∙ p) refl
      (load_shown MASTER (moved_to (to_phase phase.Want v.at) v) (omega arith) refl
      ∙ (ap (λ f. record c { phase = f }) (put_again c.phase h phase.Want (phase_is ∙ p))
      ∙ sym (cond-false (c.master == 0) won c (ne_eqb c.master 0 taken))))

  pub clearing_ticks : clears v.at.phase ≡ true → Ticks h c (shown rounds (set words (OWN + h) 0) (set views h (moved_to (to_phase (after_clear v.at.phase) v.at) v)) b)
  clearing_ticks t = clear_ticks c _ h v.at.phase phase_is t (own_shown 0 (moved_to (to_phase (after_clear v.at.phase) v.at) v) refl)

  pub free_ticks : v.at.phase ≡ phase.Free → Ticks h c (shown rounds (set words MASTER 0) (set views h (moved_to (to_phase phase.Run v.at) v)) b)
  free_ticks p = quiet c _ h phase.Free (phase_is ∙ p) refl (master_shown 0 (moved_to (to_phase phase.Run v.at) v) refl)

  pub shut_ticks : v.at.phase ≡ phase.Shut → Ticks h c (shown rounds (set words GATE (suc (word words GATE))) (set views h (moved_to (after_shutting (word words GATE) v.at) v)) b)
  unfolding shown
  shut_ticks p =
      let w : View B = moved_to (after_shutting (word words GATE) v.at) v in
      quiet c _ h phase.Shut (phase_is ∙ p) refl
      (gate_shown (suc (word words GATE)) w refl
      ∙ ap (λ q. turns_gate h q c) (ap (λ n. after_shut n v.at.hart.0) harts_is ∙ ap (λ k. after_shut c.told.harts k) x.before.hart))

  pub open_ticks : v.at.phase ≡ phase.OpenGate → Ticks h c (shown rounds (set words GATE (suc (word words GATE))) (set views h (moved_to (to_phase phase.Drop v.at) v)) b)
  unfolding shown
  open_ticks p = quiet c _ h phase.OpenGate (phase_is ∙ p) refl (gate_shown (suc (word words GATE)) (moved_to (to_phase phase.Drop v.at) v) refl)

  pub see_ticks : sees_gate v.at.phase ≡ true → Ticks h c (shown rounds (set words GATE (word words GATE)) (set views h (moved_to (after_seeing (word words GATE) v.at) v)) b)
  unfolding shown
  see_ticks t = gate_ticks c _ h v.at.phase phase_is t (load_shown GATE (moved_to (after_seeing (word words GATE) v.at) v) (omega arith) refl)

  pub mark_ticks : (gate : ℕ) → v.at.phase ≡ phase.Mark gate → Ticks h c (shown rounds (set words (OWN + h) gate) (set views h (moved_to (to_phase (phase.Parked gate) v.at) v)) b)
  mark_ticks gate p = quiet c _ h (phase.Mark gate) (phase_is ∙ p) refl (own_shown gate (moved_to (to_phase (phase.Parked gate) v.at) v) refl)

  pub looking_ticks : (looks : Looks) → v.at.phase ≡ phase.Gather looks → v.at.gate ≡ word words GATE → looks.next < 32
      → Ticks h c (shown rounds (set words (OWN + (looks_in v.at.phase).next) (word words (OWN + (looks_in v.at.phase).next))) (set views h (moved_to (after_looking (word words (OWN + (looks_in v.at.phase).next)) v.at) v)) b)
  unfolding shown
  looking_ticks looks p gate lt =
      let k : ℕ = (looks_in v.at.phase).next in
      let n : ℕ = word words (OWN + k) in
      let w : View B = moved_to (after_looking n v.at) v in
      let next_is : k ≡ looks.next = ap (λ q. (looks_in q).next) p in
      let counts : is_counted v.at n ≡ mark_counts c k = ap (λ g. (n == 1) || (n == g)) gate in
      let leads : w.at.phase ≡ after_look c.limit c.told.harts h looks (is_counted v.at n) =
      ap (λ l. after_look l v.at.harts v.at.hart.0 (looks_in v.at.phase) (is_counted v.at n)) limit_is
      ∙ (ap (λ m. after_look c.limit m v.at.hart.0 (looks_in v.at.phase) (is_counted v.at n)) harts_is
      ∙ (ap (λ i. after_look c.limit c.told.harts i (looks_in v.at.phase) (is_counted v.at n)) x.before.hart
      ∙ ap (λ q. after_look c.limit c.told.harts h (looks_in q) (is_counted v.at n)) p)) in
      look_ticks c _ h looks k (is_counted v.at n) (phase_is ∙ p) (ap (λ q. (looks_in q).next) (sym phase_is)) counts
      (load_shown (OWN + k) w (omega (arith, next_is, lt)) refl ∙ ap (λ q. enters h q c) leads)

  -- the phases of these steps are no transactions
  pub out_of : (p : Phase) → v.at.phase ≡ p → is_transaction p ≡ false → is_transaction (c.phase h) ≡ false
  out_of p e out = ap is_transaction (phase_is ∙ e) ∙ out

pub want_is_tick : {B : Type 0} → WantIsTick B
want_is_tick rounds words views b h v a told x p =
    let own : v.at.hart.0 ≡ h = x.before.hart in
    ap (λ i. shown rounds (set words (OWN + i) 1) (set views h (moved_to (to_phase phase.Want v.at) v)) b) own
    ∙ any_answer (shown rounds words views b) _ h a told (out_of rounds words views b h v x phase.Wish p refl) (want_ticks rounds words views b h v x p)

pub try_is_tick : {B : Type 0} → TryIsTick B
try_is_tick {B} rounds words views b h v a told x p =
    let w : View B = moved_to (to_phase phase.Own v.at) v in
    let won : moved_to (after_try (word words MASTER) v.at) v ≡ w = ap (λ q. moved_to (to_phase q v.at) v) (cond-true (word words MASTER == 0) phase.Own phase.Want (eq-eqb (word words MASTER) 0 p.1)) in
    ap (λ i. shown rounds (set words MASTER (suc i)) (set views h (moved_to (after_try (word words MASTER) v.at) v)) b) x.before.hart
    ∙ (ap (λ u. shown rounds (set words MASTER (suc h)) (set views h u) b) won
    ∙ any_answer (shown rounds words views b) _ h a told (out_of rounds words views b h v x phase.Want p.0 refl) (try_ticks rounds words views b h v x p.0 p.1))

pub lose_is_tick : {B : Type 0} → LoseIsTick B
lose_is_tick {B} rounds words views b h v a told x p =
    let w : View B = moved_to (to_phase phase.Want v.at) v in
    let lost : moved_to (after_try (word words MASTER) v.at) v ≡ w = ap (λ q. moved_to (to_phase q v.at) v) (cond-false (word words MASTER == 0) phase.Own phase.Want (ne_eqb (word words MASTER) 0 p.1)) in
    ap (λ u. shown rounds (set words MASTER (word words MASTER)) (set views h u) b) lost
    ∙ any_answer (shown rounds words views b) _ h a told (out_of rounds words views b h v x phase.Want p.0 refl) (lose_ticks rounds words views b h v x p.0 p.1)

pub clear_is_tick : {B : Type 0} → ClearIsTick B
clear_is_tick rounds words views b h v a told x t =
    ap (λ i. shown rounds (set words (OWN + i) 0) (set views h (moved_to (to_phase (after_clear v.at.phase) v.at) v)) b) x.before.hart
    ∙ any_answer (shown rounds words views b) _ h a told (out_of rounds words views b h v x v.at.phase refl (clears_out v.at.phase t)) (clearing_ticks rounds words views b h v x t)

pub free_is_tick : {B : Type 0} → FreeIsTick B
free_is_tick rounds words views b h v a told x p =
    any_answer (shown rounds words views b) _ h a told (out_of rounds words views b h v x phase.Free p refl) (free_ticks rounds words views b h v x p)

pub shut_is_tick : {B : Type 0} → ShutIsTick B
shut_is_tick rounds words views b h v a told x p =
    any_answer (shown rounds words views b) _ h a told (out_of rounds words views b h v x phase.Shut p refl) (shut_ticks rounds words views b h v x p)

pub look_is_tick : {B : Type 0} → LookIsTick B
look_is_tick looks lt rounds words views b h v a told x p =
    any_answer (shown rounds words views b) _ h a told (out_of rounds words views b h v x (phase.Gather looks) p.0 refl) (looking_ticks rounds words views b h v x looks p.0 p.1 lt)

pub open_gate_is_tick : {B : Type 0} → OpenGateIsTick B
open_gate_is_tick rounds words views b h v a told x p =
    any_answer (shown rounds words views b) _ h a told (out_of rounds words views b h v x phase.OpenGate p refl) (open_ticks rounds words views b h v x p)

pub see_gate_is_tick : {B : Type 0} → SeeGateIsTick B
see_gate_is_tick rounds words views b h v a told x t =
    any_answer (shown rounds words views b) _ h a told (out_of rounds words views b h v x v.at.phase refl (sees_out v.at.phase t)) (see_ticks rounds words views b h v x t)

pub mark_is_tick : {B : Type 0} → MarkIsTick B
mark_is_tick gate rounds words views b h v a told x p =
    ap (λ i. shown rounds (set words (OWN + i) gate) (set views h (moved_to (to_phase (phase.Parked gate) v.at) v)) b) x.before.hart
    ∙ any_answer (shown rounds words views b) _ h a told (out_of rounds words views b h v x (phase.Mark gate) p refl) (mark_ticks rounds words views b h v x gate p)
