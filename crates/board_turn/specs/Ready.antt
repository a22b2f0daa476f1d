-- What the calls of the board ask of a pass, and of the bus that a pass holds.
use Rattle.std.specs.Prelude.{◌≡◌, ◌≢◌, ℕ, ◌+◌, ◌<◌, ◌≤◌, ◌⊎◌, IsTrue, Bool, true, false, List, [], ◌∷◌, Option, None, length, slice_index_or}
use Rattle.mach_base.specs.declared.limits.TheConstants.{MASK_HARTS}
use Rattle.atomic_table.specs.Seated.{TableId}
use Rattle.atomic_table.specs.declared.shared.Seat as board
use Rattle.deck_core.specs.contract.Told.{Told}
use Rattle.deck_core.specs.contract.Allowed.{is_allowed}
use Rattle.deck_core.specs.decks.Seat.{Seat}
use Rattle.deck_core.specs.plain.NoteWords.{note_words}
use Rattle.deck_core.specs.ticks.NextPhase.{GoesOn, act_of, is_transaction}
use Rattle.deck_core.specs.ticks.Phases.{holds, is_finished}
use Rattle.deck_core.specs.ticks.Tick.{is_busy}
use Rattle.deck_core.specs.declared.plain.phase.Phase.{Phase}
use Rattle.deck_core.specs.declared.plain.phase.Place.{Place}
use Rattle.deck_core.specs.declared.plain.phase.Place.TheVariants as place
use Rattle.board_turn.specs.declared.board.Held.{Held}
use Rattle.board_turn.specs.declared.board.Pass.{Pass}
use Rattle.board_turn.specs.declared.view.Slot.{Slot}
use Rattle.board_turn.specs.declared.view.Standing.{Standing}
use Rattle.board_turn.specs.declared.view.View.{View}
use Rattle.board_turn.specs.declared.words.TheConstants.{TURN, MASTER, GATE, NOTES, OWN, WORDS}
use Rattle.board_turn.specs.Shown.{standing_of, view_told, word}
use Rattle.board_turn.specs.Rule.{IsOrigin}

-- the slots that are out with a seat at this place: while it holds the turn, the bus's, which is empty
abbrev pub out_with : {B : Type 0} → Place → List (ℕ × Option (Slot B))
out_with place.Give = (0, None) ∷ []
out_with _ = []

-- a word that was seen before a take was not busy
abbrev pub SawFree : ℕ → Phase → Place → Type 0
SawFree h p (place.Take seen) = is_busy h p seen ≡ false
SawFree h p _ = Unit {0}

-- this turn word is why the hart goes without the turn: it is busy, or it isn't the one that was seen and was not busy
abbrev pub IsInTheWay : Standing → ℕ → Type 0
IsInTheWay at turn = IsTrue (is_busy at.hart.0 at.phase turn) ⊎ ((seen : ℕ) × ((is_busy at.hart.0 at.phase seen ≡ false) × (turn ≢ seen)))

-- the seat is one of this board, and its view says that the hart stands here; what the phase keeps is in range; the hart is
-- in a transaction in no phase that is none
pub record SitsAt {B : Type 0} (table : TableId) (seat : board.Seat (Option (Slot B)) (View B)) (at : Standing) : Type 0 where
  pub of_table : seat.table_id ≡ table
  pub view : seat.me.0.at ≡ at
  pub live : seat.me.0.live ≡ true
  pub none_joined : seat.me.0.left ≡ at.made
  pub out : seat.me.1 ≡ out_with at.place
  pub below : at.hart.0 < at.harts
  pub few : at.harts ≤ MASK_HARTS
  pub some_rounds : 0 < at.limit
  pub outside : is_transaction at.phase ≡ false → at.place ≡ place.Peek
  pub in_range : GoesOn at.limit at.harts at.hart.0 at.phase
  pub saw : SawFree at.hart.0 at.phase at.place

-- the pass is one of this board, and stands where its seat's view says
abbrev pub IsReady : {B : Type 0} → TableId → Pass B → Type 0
IsReady table pass = SitsAt table pass.seat pass.stand

-- the pass took this bus: it tells what the pass's view keeps, and may be asked for the phase's one call
pub record HasTaken {B : Type 0} (told_by : B → Told) (same : B → B → Type 0) (pass : Pass B) (held : Held B) : Type 0 where
  pub holder : holds pass.stand.place ≡ true
  pub tells : told_by held.bus ≡ view_told pass.seat.me.0
  pub none_stored : pass.seat.me.0.stored ≡ []
  pub origin : IsOrigin same pass.seat.me.0.start held.bus
  pub allowed : is_allowed (act_of pass.stand.hart.0 pass.stand.phase) (told_by held.bus) ≡ true
  pub notes : held.notes ≡ note_words pass.seat.me.0.notes

-- the bus that the pass's board was made with
abbrev pub start_of : {B : Type 0} → Pass B → Option B
start_of pass = pass.seat.me.0.start

-- the pass as a deck tells it
abbrev pub seat_in : {B : Type 0} → Bool → Pass B → Seat
seat_in idle pass = record {
  hart = pass.stand.hart.0;
  limit = pass.stand.limit;
  harts = pass.stand.harts;
  phase = pass.stand.phase;
  place = pass.stand.place;
  idle = idle;
}

-- the pass of hart h of so many, before its first tick
pub record IsFresh {B : Type 0} (table : TableId) (start : Option B) (h harts rounds made : ℕ) (pass : Pass B) : Type 0 where
  pub ready : IsReady table pass
  pub of_start : start_of pass ≡ start
  pub stand : pass.stand ≡ standing_of h harts rounds made

-- the pass of hart h, which has seen an ending
pub record IsDone {B : Type 0} (table : TableId) (start : Option B) (h : ℕ) (pass : Pass B) : Type 0 where
  pub ready : IsReady table pass
  pub of_start : start_of pass ≡ start
  pub hart : pass.stand.hart.0 ≡ h
  pub finished : is_finished pass.stand.phase ≡ true

-- the bus that the board of these passes was made with, by the first
abbrev pub first_start : {B : Type 0} → List (Pass B) → Option B
first_start [] = None
first_start (first ∷ others) = start_of first

-- each pass of a list, that of hart h first, has seen an ending
abbrev pub AllDone : {B : Type 0} → TableId → Option B → ℕ → List (Pass B) → Type 0
AllDone table start h [] = Unit {0}
AllDone table start h (pass ∷ passes) = IsDone table start h pass × AllDone table start (h + 1) passes

-- the passes are all that were made, in the order of their harts, and each has seen an ending
abbrev pub AreAll : {B : Type 0} → TableId → List (Pass B) → Type 0
AreAll table [] = ⊥
AreAll table (first ∷ others) = (first.stand.made ≡ length others + 1) × AllDone table (start_of first) 0 (first ∷ others)

-- the first words of a board: the gate is open, nobody is master and nobody holds the turn; so many of the notes stand
pub record AreFirst (words : List ℕ) (notes : List ℕ) (n : ℕ) : Type 0 where
  pub size : length words ≡ WORDS
  pub turn : word words TURN ≡ 0
  pub master : word words MASTER ≡ 0
  pub gate : word words GATE ≡ 2
  pub some_notes : (k : ℕ) → k < n → word words (NOTES + k) ≡ slice_index_or notes k 0
  pub own : (k : ℕ) → word words (OWN + k) ≡ 0
