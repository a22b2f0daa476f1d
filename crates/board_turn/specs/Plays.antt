-- What each kind of step tells: the seat after it, by the seat before and the number found.
use Rattle.std.specs.Prelude.{◌≡◌, ℕ, ◌-◌, ◌==◌, true, List, [], ◌∷◌, ◌++◌, Option, Some, None, MatchBool, slice_index_or, if◌then◌else◌}
use Rattle.atomic_table.specs.Table.{Me, Step, rest}
use Rattle.deck_core.specs.contract.Told.{Told}
use Rattle.deck_core.specs.contract.Allowed.{is_allowed}
use Rattle.deck_core.specs.ticks.NextPhase.{act_of, after_answer}
use Rattle.deck_core.specs.ticks.Tick.{is_busy}
use Rattle.deck_core.specs.declared.plain.act.Answer.{Answer}
use Rattle.deck_core.specs.declared.plain.act.Answer.TheVariants as answer
use Rattle.deck_core.specs.declared.plain.phase.Place.{Place}
use Rattle.deck_core.specs.declared.plain.phase.Place.TheVariants as place
use Rattle.board_turn.specs.declared.view.Standing.{Standing}
use Rattle.board_turn.specs.declared.view.View.{View}
use Rattle.board_turn.specs.declared.view.Slot.{Slot}
use Rattle.board_turn.specs.declared.words.TheConstants.{NOTES}
use Rattle.board_turn.specs.Shown.{note, notes_in, view_told}
use Rattle.board_turn.specs.Rule.{IsOrigin}

-- the hart stands elsewhere, and knows the same otherwise
abbrev pub moved_to : {B : Type 0} → Standing → View B → View B
moved_to at v = record v { at = at }

-- where the hart stands, at another place in its transaction
abbrev pub at_place : Place → Standing → Standing
at_place to at = record at { place = to }

-- after the load of the turn word
abbrev pub after_peek : ℕ → Standing → Standing
after_peek turn at = at_place (if is_busy at.hart.0 at.phase turn then at.place else place.Take turn) at

-- after the call's answer
abbrev pub after_call : Answer → Standing → Standing
after_call a at = record at { phase = after_answer at.harts at.hart.0 at.phase a; place = place.Peek }

-- the turn was taken from a bus that tells this
abbrev pub taken : {B : Type 0} → Told → View B → View B
taken b v = record v { at = at_place place.Give v.at; mask = b.mask; notes = notes_in b; stored = [] }

-- a seat that has stored these notes
abbrev pub with_stored : {B : Type 0} → List ℕ → Me (Option (Slot B)) (View B) → Me (Option (Slot B)) (View B)
with_stored notes me = (record me.0 { stored = notes }, me.1)

-- a seat of hart 0 to which the seats from this one on were joined
abbrev pub with_left : {B : Type 0} → ℕ → Me (Option (Slot B)) (View B) → Me (Option (Slot B)) (View B)
with_left left me = (record me.0 { left = left }, me.1)

-- the k-th note, as the holder of the turn knows it
abbrev pub note_now : {B : Type 0} → View B → ℕ → ℕ
note_now v k = slice_index_or v.stored k (note (view_told v) k)

-- the answer that a slot has, Send without a slot
abbrev pub answer_in : {B : Type 0} → Option (Slot B) → Answer
answer_in None = answer.Send
answer_in (Some slot) = slot.last

-- the answer in the slot that was taken last
abbrev pub last_of : {B : Type 0} → List (ℕ × Option (Slot B)) → Answer
last_of [] = answer.Send
last_of (x ∷ xs) = answer_in x.1

-- the load of the turn word
abbrev pub Peeks : {B : Type 0} → Step (Option (Slot B)) → Me (Option (Slot B)) (View B) → ℕ → Me (Option (Slot B)) (View B) → Type 0
Peeks s me n after = after ≡ (moved_to (after_peek n me.0.at) me.0, me.1)

-- the turn was taken: the bus is out, has the origin of the start, and may be asked for the phase's one call
pub record TakesBus {B : Type 0} (told_by : B → Told) (same : B → B → Type 0) (v : View B) (after : Me (Option (Slot B)) (View B)) : Type 0 where
  pub bus : B
  pub last : Answer
  pub seat : after ≡ (taken (told_by bus) v, (0, Some (record { bus = bus; last = last })) ∷ [])
  pub harts : (told_by bus).harts ≡ v.at.harts
  pub origin : IsOrigin same v.start bus
  pub allowed : is_allowed (act_of v.at.hart.0 v.at.phase) (told_by bus) ≡ true

-- the compare and exchange of the turn word
abbrev pub Takes : {B : Type 0} → (B → Told) → (B → B → Type 0) → Step (Option (Slot B)) → Me (Option (Slot B)) (View B) → ℕ → Me (Option (Slot B)) (View B) → Type 0
Takes told_by same s me n after =
    MatchBool (n == s.first) (TakesBus told_by same me.0 after) (after ≡ (moved_to (at_place place.Peek me.0.at) me.0, me.1))

-- the load of a note
abbrev pub Loads : {B : Type 0} → Step (Option (Slot B)) → Me (Option (Slot B)) (View B) → ℕ → Me (Option (Slot B)) (View B) → Type 0
Loads s me n after = (after ≡ me) × (n ≡ note_now me.0 (s.word - NOTES))

-- the store of a note
abbrev pub Stores : {B : Type 0} → Step (Option (Slot B)) → Me (Option (Slot B)) (View B) → ℕ → Me (Option (Slot B)) (View B) → Type 0
Stores s me n after = after ≡ (record me.0 { stored = me.0.stored ++ n ∷ [] }, me.1)

-- the store of the turn word
abbrev pub Gives : {B : Type 0} → Step (Option (Slot B)) → Me (Option (Slot B)) (View B) → ℕ → Me (Option (Slot B)) (View B) → Type 0
Gives s me n after = after ≡ (moved_to (after_call (last_of me.1) me.0.at) me.0, rest me.1)
