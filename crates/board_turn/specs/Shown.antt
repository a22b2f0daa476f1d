-- The configuration that a board shows: its words are the board's words, its phases and places those of the seats' views.
use Rattle.std.specs.Prelude.{ℕ, ◌+◌, ◌-◌, true, false, List, [], Some, None, slice_index_or}
use Rattle.deck_core.specs.contract.Told.{Told, told_of}
use Rattle.deck_core.specs.plain.NoteWords.{note_words}
use Rattle.deck_core.specs.ticks.Configuration.{Configuration}
use Rattle.deck_core.specs.declared.plain.notes.Notes.{Notes}
use Rattle.deck_core.specs.declared.plain.phase.Phase.TheVariants as phase
use Rattle.deck_core.specs.declared.plain.phase.Place.TheVariants as place
use Rattle.board_turn.specs.declared.view.Standing.{Standing}
use Rattle.board_turn.specs.declared.view.View.{View}
use Rattle.board_turn.specs.declared.words.TheConstants.{TURN, MASTER, GATE, OWN}

-- a word of the board
abbrev pub word : List ℕ → ℕ → ℕ
word words i = slice_index_or words i 0

-- the notes in what a bus tells
abbrev pub notes_in : Told → Notes
notes_in b = record {
  planted = b.planted;
  enabled = b.enabled;
  step = b.step;
  session = b.session;
  lines = b.lines;
  sends = b.sends;
  stepped = b.stepped;
  over = b.over;
  traps = b.traps;
  faults = b.faults;
  next = b.next;
  plantable = b.plantable;
}

-- the k-th word of the notes in what a bus tells
unfoldable pub note : Told → ℕ → ℕ
note b k = slice_index_or (note_words (notes_in b)) k 0

-- hart h of so many before its first tick
abbrev pub standing_of : ℕ → ℕ → ℕ → ℕ → Standing
standing_of h harts rounds made = record {
  hart = record { 0 = h };
  harts = harts;
  limit = rounds;
  phase = phase.Run;
  place = place.Peek;
  gate = 0;
  made = made;
}

-- the notes of a view that never held the turn: no places, no session, nothing counted
abbrev pub no_notes : Notes
no_notes = record {
  planted = 0;
  enabled = 0;
  step = None;
  session = None;
  lines = 0;
  sends = 0;
  stepped = false;
  over = false;
  traps = 0;
  faults = 0;
  next = None;
  plantable = false;
}

-- the view of a seat that was joined to another, and of one that isn't made yet: in Run, before a load
abbrev pub blank_view : {B : Type 0} → View B
blank_view = record {
  at = standing_of 0 0 0 0;
  start = None;
  live = false;
  left = 0;
  mask = 0;
  notes = no_notes;
  stored = [];
}

-- the view of hart k, a blank one where there is none
abbrev pub view_of : {B : Type 0} → List (View B) → ℕ → View B
view_of views k = slice_index_or views k blank_view

-- the view of hart 0 at the start
abbrev pub first_view : {B : Type 0} → B → ℕ → ℕ → View B
first_view start harts rounds = record {
  at = standing_of 0 harts rounds 1;
  start = Some start;
  live = true;
  left = 1;
  mask = 0;
  notes = no_notes;
  stored = [];
}

-- hart 0's view after the making of one more seat
abbrev pub one_more : {B : Type 0} → View B → View B
one_more v = record v { at = record v.at { made = v.at.made + 1 }; left = v.left + 1 }

-- the view of the seat that hart 0 makes next, before its first tick
abbrev pub next_view : {B : Type 0} → View B → View B
next_view v = record v { at = standing_of v.at.made v.at.harts v.at.limit 0; left = 0 }

-- hart 0's view after the joining of the last seat that is left
abbrev pub one_fewer : {B : Type 0} → View B → View B
one_fewer v = record v { left = v.left - 1 }

-- what a view that holds the turn keeps of what the bus told
abbrev pub view_told : {B : Type 0} → View B → Told
view_told v = told_of v.at.harts v.mask v.notes

-- what the board shows. What the bus tells is told by no word alone
unfoldable pub shown : {B : Type 0} → ℕ → List ℕ → List (View B) → Told → Configuration
shown rounds words views told = record {
  limit = rounds;
  turn = word words TURN;
  master = word words MASTER;
  gate = word words GATE;
  own = λ k. word words (OWN + k);
  phase = λ k. (view_of views k).at.phase;
  place = λ k. (view_of views k).at.place;
  told = told;
}
