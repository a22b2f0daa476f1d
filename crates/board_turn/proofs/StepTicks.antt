-- What the board shows after each kind of step is the tick of what it showed before.
use Rattle.std.proofs.Common.{◌≡◌, ℕ, suc, ◌+◌, true, List, [], ◌∷◌, ◌++◌, set, refl, sym, ◌∙◌, ap, if◌then◌else◌}
use Rattle.deck_core.specs.contract.Told.{Told}
use Rattle.deck_core.specs.plain.Words.{turn_word, mask_of}
use Rattle.deck_core.specs.ticks.Configuration.{Configuration}
use Rattle.deck_core.specs.ticks.NextPhase.{after_answer, is_transaction}
use Rattle.deck_core.specs.ticks.Phases.{holds}
use Rattle.deck_core.specs.ticks.Tick.{is_busy, peeks, tick}
use Rattle.deck_core.specs.declared.plain.act.Answer.{Answer}
use Rattle.deck_core.specs.declared.plain.phase.Place.TheVariants as place
use Rattle.deck_core.proofs.Flats.{give_tick, tick_transacts}
use Rattle.board_turn.specs.declared.view.View.{View}
use Rattle.board_turn.specs.declared.words.TheConstants.{TURN, NOTES}
use Rattle.board_turn.specs.Plays.{after_call, after_peek, at_place, moved_to, taken}
use Rattle.board_turn.specs.Shown.{word, shown}
use Rattle.board_turn.specs.Steps.{Before, PeekIsTick, TakeIsTick, MissIsTick, GiveIsTick, StoreShowsNothing, SplitShowsNothing, JoinShowsRun}
use Rattle.board_turn.proofs.Lists.{reload}
use Rattle.board_turn.proofs.Shows.{give_shown, miss_shown, note_shown, peek_shown, shown-phase, shown-place, shown-told, shown_stays, take_shown}
use Rattle.board_turn.proofs.Seating.{join_shown, split_shown}
use Rattle.board_turn.proofs.Turns.{turn_there}

module _ {B : Type 0} (rounds : ℕ) (words : List ℕ) (views : List (View B)) (b : Told) (h : ℕ) (v : View B) (x : Before words views h v) where
  abbrev c : Configuration
  c = shown rounds words views b

  phase_is : c.phase h ≡ v.at.phase
  phase_is = shown-phase rounds words views b h ∙ ap (λ u. u.at.phase) x.view

  place_is : c.place h ≡ v.at.place
  place_is = shown-place rounds words views b h ∙ ap (λ u. u.at.place) x.view

  -- the words after a load of the turn word
  loaded : (w : View B) → shown rounds (set words TURN (word words TURN)) (set views h w) b ≡ shown rounds words (set views h w) b
  loaded w = ap (λ ws. shown rounds ws (set views h w) b) (reload words TURN 0 (turn_there words x.all_words))

  pub peeked_is : (a : Answer) (after : Told) → is_transaction v.at.phase ≡ true → v.at.place ≡ place.Peek
      → shown rounds (set words TURN (word words TURN)) (set views h (moved_to (after_peek (word words TURN) v.at) v)) b ≡ tick h a after c
  peeked_is a after t p =
      let turn : ℕ = word words TURN in
      let w : View B = moved_to (after_peek turn v.at) v in
      let same : is_busy v.at.hart.0 v.at.phase turn ≡ is_busy h v.at.phase turn = ap (λ k. is_busy k v.at.phase turn) x.hart in
      loaded w
      ∙ (peek_shown rounds words views b h v w x.there x.view p refl (ap (λ q. if q then v.at.place else place.Take turn) same)
      ∙ (ap (λ q. peeks h q c) (sym phase_is)
      ∙ sym (tick_transacts h place.Peek a after c (ap is_transaction phase_is ∙ t) (place_is ∙ p))))

  pub taken_is : (a : Answer) (after : Told) → is_transaction v.at.phase ≡ true → v.at.place ≡ place.Take (word words TURN)
      → shown rounds (set words TURN (turn_word (mask_of (word words TURN)) (suc h))) (set views h (taken b v)) b ≡ tick h a after c
  taken_is a after t p =
      take_shown rounds words views b h (word words TURN) v (taken b v) x.there (turn_there words x.all_words) x.view refl refl refl
      ∙ sym (tick_transacts h (place.Take (word words TURN)) a after c (ap is_transaction phase_is ∙ t) (place_is ∙ p))

  pub missed_is : (seen : ℕ) (a : Answer) (after : Told) → is_transaction v.at.phase ≡ true → v.at.place ≡ place.Take seen → (word words TURN ≡ seen → ⊥)
      → shown rounds (set words TURN (word words TURN)) (set views h (moved_to (at_place place.Peek v.at) v)) b ≡ tick h a after c
  missed_is seen a after t p ne =
      let w : View B = moved_to (at_place place.Peek v.at) v in
      loaded w
      ∙ (miss_shown rounds words views b h seen v w x.there x.view ne refl refl
      ∙ sym (tick_transacts h (place.Take seen) a after c (ap is_transaction phase_is ∙ t) (place_is ∙ p)))

  pub given_is : (a : Answer) (after : Told) → is_transaction v.at.phase ≡ true → v.at.place ≡ place.Give → v.at.harts ≡ b.harts
      → shown rounds (set words TURN after.mask) (set views h (moved_to (after_call a v.at) v)) after ≡ tick h a after c
  given_is a after t p harts =
      let w : View B = moved_to (after_call a v.at) v in
      let leads : w.at.phase ≡ after_answer c.told.harts h (c.phase h) a =
      ap (λ n. after_answer n v.at.hart.0 v.at.phase a) (harts ∙ ap (λ y. y.harts) (sym (shown-told rounds words views b)))
      ∙ (ap (λ i. after_answer c.told.harts i v.at.phase a) x.hart ∙ ap (λ q. after_answer c.told.harts h q a) (sym phase_is)) in
      give_shown rounds words views b after h (after_answer c.told.harts h (c.phase h) a) w x.there (turn_there words x.all_words) leads refl
      ∙ sym (give_tick c h a after (ap is_transaction phase_is ∙ t) (ap holds (place_is ∙ p)))

pub peek_is_tick : {B : Type 0} → PeekIsTick B
peek_is_tick rounds words views b h v a after x t p = peeked_is rounds words views b h v x a after t p

pub take_is_tick : {B : Type 0} → TakeIsTick B
take_is_tick rounds words views b h v a after x t p = taken_is rounds words views b h v x a after t p

pub miss_is_tick : {B : Type 0} → MissIsTick B
miss_is_tick rounds words views b h v seen a after x t p ne = missed_is rounds words views b h v x seen a after t p ne

pub give_is_tick : {B : Type 0} → GiveIsTick B
give_is_tick rounds words views b h v a after x t p harts = given_is rounds words views b h v x a after t p harts

pub store_shows_nothing : {B : Type 0} → StoreShowsNothing B
store_shows_nothing rounds words views b h v j n x lt =
    shown_stays rounds words (set words (NOTES + j) n) views b h (record v { stored = v.stored ++ n ∷ [] }) x.there (note_shown words j n lt)
    (ap (λ u. u.at.phase) (sym x.view)) (ap (λ u. u.at.place) (sym x.view))

pub split_shows_nothing : {B : Type 0} → SplitShowsNothing B
split_shows_nothing rounds words views b h v x = split_shown rounds words views b h v x.there x.view

pub join_shows_run : {B : Type 0} → JoinShowsRun B
join_shows_run rounds words views b h k v w x y ne p = join_shown rounds words views b h k v w x.there y.there x.view y.view ne p
