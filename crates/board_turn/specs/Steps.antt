-- For each kind of step: what the board shows after it is the tick of what it showed before, or the same.
use Rattle.std.specs.Prelude.{◌≡◌, ℕ, suc, ◌+◌, ◌<◌, ◌++◌, true, List, [], ◌∷◌, length, slice_set}
use Rattle.deck_core.specs.contract.Told.{Told}
use Rattle.deck_core.specs.plain.Words.{turn_word, mask_of}
use Rattle.deck_core.specs.ticks.NextPhase.{is_transaction}
use Rattle.deck_core.specs.ticks.Tick.{enters, tick}
use Rattle.deck_core.specs.declared.plain.act.Answer.{Answer}
use Rattle.deck_core.specs.declared.plain.note_words.TheConstants.{NOTE_WORDS}
use Rattle.deck_core.specs.declared.plain.phase.Phase.TheVariants as phase
use Rattle.deck_core.specs.declared.plain.phase.Place.TheVariants as place
use Rattle.board_turn.specs.declared.view.View.{View}
use Rattle.board_turn.specs.declared.words.TheConstants.{TURN, NOTES, WORDS}
use Rattle.board_turn.specs.Shown.{word, blank_view, next_view, one_fewer, one_more, shown, view_of}
use Rattle.board_turn.specs.Plays.{after_call, after_peek, at_place, moved_to, taken}

-- before a step of hart h, whose seat has this view
pub record Before {B : Type 0} (words : List ℕ) (views : List (View B)) (h : ℕ) (v : View B) : Type 0 where
  pub all_words : length words ≡ WORDS
  pub there : h < length views
  pub view : view_of views h ≡ v
  pub hart : v.at.hart.0 ≡ h

-- the load of the turn word
abbrev pub PeekIsTick : Type 0 → Type 0
PeekIsTick B =
    (rounds : ℕ) (words : List ℕ) (views : List (View B)) (b : Told) (h : ℕ) (v : View B) (a : Answer) (after : Told)
    → Before words views h v → is_transaction v.at.phase ≡ true → v.at.place ≡ place.Peek
    → shown rounds (slice_set words TURN (word words TURN)) (slice_set views h (moved_to (after_peek (word words TURN) v.at) v)) b
    ≡ tick h a after (shown rounds words views b)

-- the compare and exchange of the turn word where it is the one that was seen: the hart takes the turn
abbrev pub TakeIsTick : Type 0 → Type 0
TakeIsTick B =
    (rounds : ℕ) (words : List ℕ) (views : List (View B)) (b : Told) (h : ℕ) (v : View B) (a : Answer) (after : Told)
    → Before words views h v → is_transaction v.at.phase ≡ true → v.at.place ≡ place.Take (word words TURN)
    → shown rounds (slice_set words TURN (turn_word (mask_of (word words TURN)) (suc h))) (slice_set views h (taken b v)) b
    ≡ tick h a after (shown rounds words views b)

-- the compare and exchange of the turn word where it isn't the one that was seen: nothing is written
abbrev pub MissIsTick : Type 0 → Type 0
MissIsTick B =
    (rounds : ℕ) (words : List ℕ) (views : List (View B)) (b : Told) (h : ℕ) (v : View B) (seen : ℕ) (a : Answer) (after : Told)
    → Before words views h v → is_transaction v.at.phase ≡ true → v.at.place ≡ place.Take seen → (word words TURN ≡ seen → ⊥)
    → shown rounds (slice_set words TURN (word words TURN)) (slice_set views h (moved_to (at_place place.Peek v.at) v)) b
    ≡ tick h a after (shown rounds words views b)

-- the store of the turn word: the tick of the call, with the answer that the slot has and what the bus in it tells
abbrev pub GiveIsTick : Type 0 → Type 0
GiveIsTick B =
    (rounds : ℕ) (words : List ℕ) (views : List (View B)) (b : Told) (h : ℕ) (v : View B) (a : Answer) (after : Told)
    → Before words views h v → is_transaction v.at.phase ≡ true → v.at.place ≡ place.Give → v.at.harts ≡ b.harts
    → shown rounds (slice_set words TURN after.mask) (slice_set views h (moved_to (after_call a v.at) v)) after
    ≡ tick h a after (shown rounds words views b)

-- the store of a note is no tick
abbrev pub StoreShowsNothing : Type 0 → Type 0
StoreShowsNothing B =
    (rounds : ℕ) (words : List ℕ) (views : List (View B)) (b : Told) (h : ℕ) (v : View B) (j n : ℕ)
    → Before words views h v → j < NOTE_WORDS
    → shown rounds (slice_set words (NOTES + j) n) (slice_set views h (record v { stored = v.stored ++ n ∷ [] })) b ≡ shown rounds words views b

-- nor is the making of another seat
abbrev pub SplitShowsNothing : Type 0 → Type 0
SplitShowsNothing B =
    (rounds : ℕ) (words : List ℕ) (views : List (View B)) (b : Told) (h : ℕ) (v : View B)
    → Before words views h v → shown rounds words (slice_set views h (one_more v) ++ next_view v ∷ []) b ≡ shown rounds words views b

-- a joined seat counts as in Run again
abbrev pub JoinShowsRun : Type 0 → Type 0
JoinShowsRun B =
    (rounds : ℕ) (words : List ℕ) (views : List (View B)) (b : Told) (h k : ℕ) (v w : View B)
    → Before words views h v → Before words views k w → (k ≡ h → ⊥) → w.at.place ≡ place.Peek
    → shown rounds words (slice_set (slice_set views h (one_fewer v)) k blank_view) b ≡ enters k phase.Run (shown rounds words views b)
