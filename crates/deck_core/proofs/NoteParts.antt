-- The words of notes, read back.
use Rattle.std.proofs.Common.{◌≡◌, ℕ, ◌%◌, ◌==◌, Bool, true, false, not, Option, Some, None, refl, ◌∙◌, ap, arith}
use Rattle.deck_core.specs.plain.NoteWords.{flag_word, there_word, address_word, address_of, stage_number, stage_word, master_word, late_word, session_of, note_words, notes_of, HasMaster, NotesAreReadBack}
use Rattle.deck_core.specs.declared.plain.notes.Notes.{Notes}
use Rattle.deck_core.specs.declared.plain.notes.Sitting.{Sitting}
use Rattle.deck_core.specs.declared.plain.notes.Stage.{Stage}
use Rattle.deck_core.specs.declared.plain.notes.Stage.TheVariants as stage

flag_back : (b : Bool) → not (flag_word b == 0) ≡ b
flag_back true = refl
flag_back false = refl

address_back : (o : Option ℕ) → address_of (there_word o) (address_word o) ≡ o
address_back None = refl
address_back (Some address) = refl

stage_back : (master late : ℕ) (s : Stage) → session_of (stage_number s) master late ≡ Some (record { master = record { 0 = master % 256 }; late = late; stage = s })
stage_back master late stage.Lines = refl
stage_back master late (stage.Pass false) = refl
stage_back master late (stage.Pass true) = refl
stage_back master late stage.Back = refl
stage_back master late stage.Leaving = refl

session_back : (o : Option Sitting) → HasMaster o → session_of (stage_word o) (master_word o) (late_word o) ≡ o
session_back None fits = refl
session_back (Some sitting) fits =
    let low : sitting.master.0 % 256 ≡ sitting.master.0 = omega (arith, fits) in
    let f : ℕ → Option Sitting = λ m. Some (record { master = record { 0 = m }; late = sitting.late; stage = sitting.stage }) in
    stage_back sitting.master.0 sitting.late sitting.stage ∙ ap f low

pub notes_are_read_back : NotesAreReadBack
notes_are_read_back n fits =
    let step : Option ℕ → Notes = λ x. record (notes_of (note_words n)) { step = x } in
    let session : Option Sitting → Notes = λ x. record (notes_of (note_words n)) { step = n.step; session = x } in
    let stepped : Bool → Notes = λ x. record (notes_of (note_words n)) { step = n.step; session = n.session; stepped = x } in
    let over : Bool → Notes = λ x. record (notes_of (note_words n)) { step = n.step; session = n.session; stepped = n.stepped; over = x } in
    let next : Option ℕ → Notes = λ x. record (notes_of (note_words n)) { step = n.step; session = n.session; stepped = n.stepped; over = n.over; next = x } in
    let plantable : Bool → Notes = λ x. record n { plantable = x } in
    ap step (address_back n.step)
    ∙ (ap session (session_back n.session fits)
    ∙ (ap stepped (flag_back n.stepped)
    ∙ (ap over (flag_back n.over)
    ∙ (ap next (address_back n.next)
    ∙ ap plantable (flag_back n.plantable)))))
