-- The rule of a board: what holds between any two steps.
use Rattle.std.specs.Prelude.{◌≡◌, ℕ, ◌+◌, ◌<◌, ◌≤◌, true, false, List, Option, Some, None, length, slice_index_or}
use mathlib.Core.Option.{some}
use mathlib.Core.Option as maybe
use lib.ListN.{get_elem?}
use Rattle.atomic_table.specs.Table.{State}
use Rattle.deck_core.specs.Invariant.{Sound}
use Rattle.deck_core.specs.contract.Told.{Told}
use Rattle.deck_core.specs.plain.Words.{holder_of}
use Rattle.deck_core.specs.ticks.Phases.{holds, is_shut}
use Rattle.deck_core.specs.declared.plain.act.Answer.{Answer}
use Rattle.deck_core.specs.declared.plain.phase.Phase.TheVariants as phase
use Rattle.deck_core.specs.declared.plain.phase.Place.TheVariants as place
use Rattle.deck_core.specs.declared.plain.note_words.TheConstants.{NOTE_WORDS}
use Rattle.board_turn.specs.declared.view.View.{View}
use Rattle.board_turn.specs.declared.view.Slot.{Slot}
use Rattle.board_turn.specs.declared.words.TheConstants.{TURN, GATE, NOTES, WORDS}
use Rattle.board_turn.specs.Shown.{word, note, view_of, view_told, shown}

-- the bus has the origin of the one that the board was made with
abbrev pub IsOrigin : {B : Type 0} → (B → B → Type 0) → Option B → B → Type 0
IsOrigin same None bus = ⊥
IsOrigin same (Some start) bus = same start bus

-- a seat that holds the turn: the bus told what its view keeps, until the turn is given back; each note that it has stored
-- stands in its word, and each other word has the note of what the bus told
pub record HoldsTurn {B : Type 0} (words : List ℕ) (b : Told) (v : View B) : Type 0 where
  pub tells : b ≡ view_told v
  pub notes : (k : ℕ) → k < NOTE_WORDS → word words (NOTES + k) ≡ slice_index_or v.stored k (note b k)

-- the seat of hart k: it knows its number, that of harts, that of rounds and the start; while the gate is shut by its
-- hart, the number that it keeps is the gate's
pub record IsSeatOf {B : Type 0} (rounds : ℕ) (start : Option B) (words : List ℕ) (b : Told) (k : ℕ) (v : View B) : Type 0 where
  pub hart : v.at.hart.0 ≡ k
  pub below : k < b.harts
  pub of_rounds : v.at.limit ≡ rounds
  pub of_harts : v.at.harts ≡ b.harts
  pub of_start : v.start ≡ start
  pub gate : is_shut v.at.phase ≡ true → v.at.gate ≡ word words GATE
  pub holder : holds v.at.place ≡ true → HoldsTurn words b v

-- a seat that isn't a hart's any more counts as in Run, before a load
pub record IsSpent {B : Type 0} (v : View B) : Type 0 where
  pub phase : v.at.phase ≡ phase.Run
  pub place : v.at.place ≡ place.Peek

pub record SeatFits {B : Type 0} (rounds : ℕ) (start : Option B) (words : List ℕ) (b : Told) (k : ℕ) (v : View B) : Type 0 where
  pub live : v.live ≡ true → IsSeatOf rounds start words b k v
  pub spent : v.live ≡ false → IsSpent v

-- the bus is in its slot, tells this, and has the origin of the start; the notes are its notes
pub record IsHome {B : Type 0} (told_by : B → Told) (same : B → B → Type 0) (start : Option B) (words : List ℕ) (b : Told) (homes : List (maybe.Option (Option (Slot B)))) : Type 0 where
  pub bus : B
  pub last : Answer
  pub here : get_elem? homes 0 ≡ some (some (Some (record { bus = bus; last = last })))
  pub tells : told_by bus ≡ b
  pub origin : IsOrigin same start bus
  pub notes : (k : ℕ) → k < NOTE_WORDS → word words (NOTES + k) ≡ note b k

-- hart 0 knows how many seats were made, and that those from `left` on were joined
pub record Counts {B : Type 0} (views : List (View B)) (first : View B) : Type 0 where
  pub made : first.at.made ≡ length views
  pub left : (k : ℕ) → first.left ≤ k → (view_of views k).live ≡ false

-- what the board shows meets the protocol's invariant
pub record Ruled {B : Type 0} (told_by : B → Told) (same : B → B → Type 0) (s : State (Option (Slot B)) (View B)) : Type 0 where
  pub rounds : ℕ
  pub start : Option B
  pub told : Told
  pub sound : Sound (shown rounds s.words s.views told)
  pub all_words : length s.words ≡ WORDS
  pub one_slot : length s.homes ≡ 1
  pub seats : (k : ℕ) → SeatFits rounds start s.words told k (view_of s.views k)
  pub home : holder_of (word s.words TURN) ≡ 0 → IsHome told_by same start s.words told s.homes
  pub counts : Counts s.views (view_of s.views 0)
