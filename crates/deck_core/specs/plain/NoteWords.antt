-- The notes as words of 64 bits, always so many, and back.
use Rattle.std.specs.Prelude.{◌≡◌, ℕ, ◌%◌, ◌<◌, ◌==◌, Bool, true, false, not, List, [], ◌∷◌, Option, Some, None, slice_index_or, if◌then◌else◌}
use Rattle.deck_core.specs.declared.plain.notes.Notes.{Notes}
use Rattle.deck_core.specs.declared.plain.notes.Sitting.{Sitting}
use Rattle.deck_core.specs.declared.plain.notes.Stage.{Stage}
use Rattle.deck_core.specs.declared.plain.notes.Stage.TheVariants as stage

-- 1 for yes, 0 for no
abbrev pub flag_word : Bool → ℕ
flag_word true = 1
flag_word false = 0

-- an address that may lack takes two words: whether there is one, and which
abbrev pub there_word : Option ℕ → ℕ
there_word None = 0
there_word (Some address) = 1

-- the address, 0 where there is none
abbrev pub address_word : Option ℕ → ℕ
address_word None = 0
address_word (Some address) = address

-- the address that two such words mean, if there is one
abbrev pub address_of : ℕ → ℕ → Option ℕ
address_of there address = if there == 0 then None else Some address

-- the session takes three: its stage by its number from 1 on, or 0 without one; its master; its late harts
abbrev pub stage_number : Stage → ℕ
stage_number stage.Lines = 1
stage_number (stage.Pass false) = 2
stage_number (stage.Pass true) = 3
stage_number stage.Back = 4
stage_number stage.Leaving = 5

-- the stage of a number, Leaving where the number is none of the others'
abbrev pub stage_of : ℕ → Stage
stage_of number =
    if number == 1 then stage.Lines
    else (if number == 2 then stage.Pass false
    else (if number == 3 then stage.Pass true
    else (if number == 4 then stage.Back else stage.Leaving)))

-- the number of the session's stage, 0 without a session
abbrev pub stage_word : Option Sitting → ℕ
stage_word None = 0
stage_word (Some sitting) = stage_number sitting.stage

-- the number of the session's master, 0 without a session
abbrev pub master_word : Option Sitting → ℕ
master_word None = 0
master_word (Some sitting) = sitting.master.0

-- the mask of the session's late harts, 0 without a session
abbrev pub late_word : Option Sitting → ℕ
late_word None = 0
late_word (Some sitting) = sitting.late

-- the session that three such words mean, if there is one
abbrev pub session_of : ℕ → ℕ → ℕ → Option Sitting
session_of number master late =
    if number == 0 then None
    else Some (record { master = record { 0 = master % 256 }; late = late; stage = stage_of number })

-- the words of the notes, in the order of the fields
abbrev pub note_words : Notes → List ℕ
note_words n =
    n.planted ∷ n.enabled ∷ there_word n.step ∷ address_word n.step ∷ stage_word n.session ∷ master_word n.session ∷ late_word n.session
    ∷ n.lines ∷ n.sends ∷ flag_word n.stepped ∷ flag_word n.over ∷ n.traps ∷ n.faults ∷ there_word n.next ∷ address_word n.next
    ∷ flag_word n.plantable ∷ []

-- the notes that words mean
abbrev pub notes_of : List ℕ → Notes
notes_of words = record {
  planted = slice_index_or words 0 0;
  enabled = slice_index_or words 1 0;
  step = address_of (slice_index_or words 2 0) (slice_index_or words 3 0);
  session = session_of (slice_index_or words 4 0) (slice_index_or words 5 0) (slice_index_or words 6 0);
  lines = slice_index_or words 7 0;
  sends = slice_index_or words 8 0;
  stepped = not (slice_index_or words 9 0 == 0);
  over = not (slice_index_or words 10 0 == 0);
  traps = slice_index_or words 11 0;
  faults = slice_index_or words 12 0;
  next = address_of (slice_index_or words 13 0) (slice_index_or words 14 0);
  plantable = not (slice_index_or words 15 0 == 0);
}

-- a session's master is a hart's number
abbrev pub HasMaster : Option Sitting → Type 0
HasMaster None = Unit {0}
HasMaster (Some sitting) = sitting.master.0 < 256

-- the words of notes mean these notes
abbrev pub NotesAreReadBack : Type 0
NotesAreReadBack = (n : Notes) → HasMaster n.session → notes_of (note_words n) ≡ n
