-- A pass stays ready over each step.
use Rattle.std.proofs.Common.{◌≡◌, ℕ, suc, zero, ◌+◌, ◌<◌, ◌≤◌, ◌==◌, true, false, List, [], ◌∷◌, ◌++◌, length, get_or, set, replicate, refl, sym, ◌∙◌, ap, subst, inl, inr, arith, Option, Some, None}
use Rattle.std.specs.Prelude.{MatchBool, remove}
use Rattle.std.proofs.lemmas.List.{get_or-set_same, get_or-set_other, length-set, same_lists}
use Rattle.std.proofs.lemmas.Bool.{both_ways, cases_eq, cond-true, cond-false, eq-eqb, ne_eqb}
use Rattle.atomic_table.specs.Seated.{TableId}
use Rattle.atomic_table.specs.Table.{Me, rest}
use Rattle.atomic_table.specs.declared.shared.Seat.{Seat}
use Rattle.deck_core.specs.contract.Told.{Told, told_of}
use Rattle.deck_core.specs.contract.Calls.{HonestCall}
use Rattle.deck_core.specs.ticks.NextPhase.{GoesOn, act_of, is_transaction}
use Rattle.deck_core.specs.plain.NoteWords.{note_words}
use Rattle.deck_core.specs.ticks.Phases.{holds, is_finished}
use Rattle.deck_core.specs.ticks.Tick.{is_busy}
use Rattle.deck_core.specs.declared.plain.notes.Notes.{Notes}
use Rattle.deck_core.specs.declared.plain.phase.Phase.{Phase}
use Rattle.deck_core.specs.declared.plain.phase.Phase.TheVariants as phase
use Rattle.deck_core.specs.declared.plain.act.Act.{Act}
use Rattle.deck_core.specs.declared.plain.act.Answer.{Answer}
use Rattle.deck_core.specs.declared.plain.phase.Place.{Place}
use Rattle.deck_core.specs.declared.plain.phase.Place.TheVariants as place
use Rattle.deck_core.proofs.Programs.{answers_go_on}
use Rattle.board_turn.specs.declared.board.Pass.{Pass}
use Rattle.board_turn.specs.declared.view.Slot.{Slot}
use Rattle.board_turn.specs.declared.view.Standing.{Standing}
use Rattle.board_turn.specs.declared.view.View.{View}
use Rattle.board_turn.specs.Plays.{after_call, after_peek, at_place, last_of, moved_to, note_now, taken, with_stored}
use Rattle.board_turn.specs.declared.words.TheConstants.{TURN, MASTER, GATE, NOTES, OWN}
use Rattle.board_turn.specs.Ready.{AllDone, AreAll, AreFirst, IsDone, SawFree, SitsAt, first_start, out_with, start_of}
use Rattle.board_turn.specs.Rule.{IsOrigin}
use Rattle.board_turn.specs.Shown.{note, notes_in, view_told}
use Rattle.board_turn.proofs.Turns.{default_free, seat_with}

-- a hart goes on to stand here
pub record Stood (at at2 : Standing) : Type 0 where
  pub hart : at2.hart.0 ≡ at.hart.0
  pub harts : at2.harts ≡ at.harts
  pub limit : at2.limit ≡ at.limit
  pub made : at2.made ≡ at.made
  pub outside : is_transaction at2.phase ≡ false → at2.place ≡ place.Peek
  pub in_range : GoesOn at2.limit at2.harts at2.hart.0 at2.phase
  pub saw : SawFree at2.hart.0 at2.phase at2.place

module _ {B : Type 0} (table : TableId) (seat seat2 : Seat (Option (Slot B)) (View B)) (at : Standing) where
  pub sits_on : (at2 : Standing) (v2 : View B) (out : List (ℕ × Option (Slot B))) → SitsAt table seat at → seat2.table_id ≡ seat.table_id → seat2.me ≡ (v2, out)
      → v2.at ≡ at2 → v2.live ≡ true → v2.left ≡ at2.made → out ≡ out_with at2.place → Stood at at2 → SitsAt table seat2 at2
  sits_on at2 v2 out r t e view live left carried s = record {
    of_table = t ∙ r.of_table;
    view = ap (λ m. m.0.at) e ∙ view;
    live = ap (λ m. m.0.live) e ∙ live;
    none_joined = ap (λ m. m.0.left) e ∙ left;
    out = ap (λ m. m.1) e ∙ carried;
    below = subst (λ h. h < at2.harts) (sym s.hart) (subst (λ n. at.hart.0 < n) (sym s.harts) r.below);
    few = subst (λ n. n ≤ 32) (sym s.harts) r.few;
    some_rounds = subst (λ n. 0 < n) (sym s.limit) r.some_rounds;
    outside = s.outside;
    in_range = s.in_range;
    saw = s.saw;
  }

  -- by a step that changes where the hart stands alone, and no slot
  pub steps_on : (at2 : Standing) (f : Standing → Standing) → SitsAt table seat at → seat2.table_id ≡ seat.table_id → seat2.me ≡ (moved_to (f seat.me.0.at) seat.me.0, seat.me.1)
      → at2 ≡ f at → out_with {B = B} at.place ≡ out_with at2.place → Stood at at2 → SitsAt table seat2 at2
  steps_on at2 f r t e now out s =
      sits_on at2 (moved_to (f seat.me.0.at) seat.me.0) seat.me.1 r t e (ap f r.view ∙ sym now) r.live (r.none_joined ∙ sym s.made) (r.out ∙ out) s

  -- the load of the turn word
  pub peek_sits : (found : ℕ) → SitsAt table seat at → seat2.table_id ≡ seat.table_id → seat2.me ≡ (moved_to (after_peek found seat.me.0.at) seat.me.0, seat.me.1)
      → is_transaction at.phase ≡ true → at.place ≡ place.Peek → is_busy at.hart.0 at.phase found ≡ false → SitsAt table seat2 (at_place (place.Take found) at)
  peek_sits found r t e tr p free =
      steps_on (at_place (place.Take found) at) (after_peek found) r t e
      (ap (λ q. at_place q at) (sym (cond-false (is_busy at.hart.0 at.phase found) at.place (place.Take found) free)))
      (ap (out_with {B = B}) p)
      (record { hart = refl; harts = refl; limit = refl; made = refl; outside = λ o. absurd (both_ways (is_transaction at.phase) o tr); in_range = r.in_range; saw = free })

  pub busy_sits : (found : ℕ) → SitsAt table seat at → seat2.table_id ≡ seat.table_id → seat2.me ≡ (moved_to (after_peek found seat.me.0.at) seat.me.0, seat.me.1)
      → is_busy at.hart.0 at.phase found ≡ true → SitsAt table seat2 at
  busy_sits found r t e busy =
      steps_on at (after_peek found) r t e
      (ap (λ q. at_place q at) (sym (cond-true (is_busy at.hart.0 at.phase found) at.place (place.Take found) busy)))
      refl
      (record { hart = refl; harts = refl; limit = refl; made = refl; outside = r.outside; in_range = r.in_range; saw = r.saw })

  -- the compare and exchange that found another word
  pub miss_sits : (seen : ℕ) → SitsAt table seat at → seat2.table_id ≡ seat.table_id → seat2.me ≡ (moved_to (at_place place.Peek seat.me.0.at) seat.me.0, seat.me.1)
      → at.place ≡ place.Take seen → SitsAt table seat2 (at_place place.Peek at)
  miss_sits seen r t e p =
      steps_on (at_place place.Peek at) (at_place place.Peek) r t e refl (ap (out_with {B = B}) p)
      (record { hart = refl; harts = refl; limit = refl; made = refl; outside = λ o. refl; in_range = r.in_range; saw = tt })

  -- the turn was taken, and the bus taken out
  pub take_sits : (b : Told) → SitsAt table seat at → seat2.table_id ≡ seat.table_id → seat2.me ≡ (taken b seat.me.0, out_with place.Give)
      → is_transaction at.phase ≡ true → SitsAt table seat2 (at_place place.Give at)
  take_sits b r t e tr =
      sits_on (at_place place.Give at) (taken b seat.me.0) (out_with place.Give) r t e (ap (at_place place.Give) r.view) r.live r.none_joined refl
      (record { hart = refl; harts = refl; limit = refl; made = refl; outside = λ o. absurd (both_ways (is_transaction at.phase) o tr); in_range = r.in_range; saw = tt })

  -- the call was made, and the turn given back
  pub give_sits : (a : Answer) (stored : List ℕ) → SitsAt table seat at → seat2.table_id ≡ seat.table_id → seat2.me ≡ (moved_to (after_call a seat.me.0.at) (record seat.me.0 { stored = stored }), [])
      → SitsAt table seat2 (after_call a at)
  give_sits a stored r t e =
      sits_on (after_call a at) (moved_to (after_call a seat.me.0.at) (record seat.me.0 { stored = stored })) [] r t e (ap (after_call a) r.view) r.live r.none_joined refl
      (record {
        hart = refl;
        harts = refl;
        limit = refl;
        made = refl;
        outside = λ o. refl;
        in_range = answers_go_on at.limit at.harts at.hart.0 at.phase a r.some_rounds r.below r.in_range;
        saw = tt;
      })

-- the passes of a list, and one more
pub all_done_snoc : {B : Type 0} (table : TableId) (start : Option B) (h : ℕ) (xs : List (Pass B)) (x : Pass B) → AllDone table start h (xs ++ x ∷ []) → AllDone table start h xs × IsDone table start (h + length xs) x
all_done_snoc table start h [] x d = (tt, subst (λ n. IsDone table start n x) (omega arith) d.0)
all_done_snoc table start h (y ∷ ys) x d =
    let r = all_done_snoc table start (h + 1) ys x d.1 in
    ((d.0, r.0), subst (λ n. IsDone table start n x) (omega arith) r.1)

-- the first of all passes, and the others
pub record FirstOf {B : Type 0} (table : TableId) (passes : List (Pass B)) (first : Pass B) (others : List (Pass B)) : Type 0 where
  pub all : first.stand.made ≡ length others + 1
  pub here : IsDone table (start_of first) 0 first
  pub done : AllDone table (start_of first) 1 others
  pub start : first_start passes ≡ start_of first

pub first_of : {B : Type 0} (table : TableId) (passes : List (Pass B)) (first : Pass B) (others : List (Pass B)) → AreAll table passes → first ≡ get_or passes 0 first → others ≡ remove passes 0 → FirstOf table passes first others
first_of table [] first others a e f = absurd a
first_of {B} table (x ∷ xs) first others a e f =
    subst (λ p. FirstOf table (x ∷ xs) p others) (sym e)
    (subst (λ (ps : List (Pass B)). FirstOf table (x ∷ xs) x ps) (sym f) (record { all = a.0; here = a.1.0; done = a.1.1; start = refl }))

-- the slots that are out with a seat that holds the turn
pub out_given : {B : Type 0} (at : Place) → holds at ≡ true → out_with {B = B} at ≡ (0, None) ∷ []
out_given place.Give e = refl
out_given place.Peek e = absurd (both_ways false refl e)
out_given (place.Take seen) e = absurd (both_ways false refl e)

-- a finished hart stands before a load
pub done_phase : (p : Phase) → is_finished p ≡ true → p ≡ phase.Finished
done_phase phase.Finished e = refl
done_phase _ e = absurd (both_ways false refl e)

-- the first words, with one note more
pub first_more : (words notes : List ℕ) (k : ℕ) → k < 16 → AreFirst words notes k → AreFirst (set words (NOTES + k) (get_or notes k 0)) notes (k + 1)
first_more words notes k lt a = record {
  size = length-set words (NOTES + k) (get_or notes k 0) ∙ a.size;
  turn = get_or-set_other words (NOTES + k) TURN (get_or notes k 0) 0 (λ e. omega (arith, e)) ∙ a.turn;
  master = get_or-set_other words (NOTES + k) MASTER (get_or notes k 0) 0 (λ e. omega (arith, e)) ∙ a.master;
  gate = get_or-set_other words (NOTES + k) GATE (get_or notes k 0) 0 (λ e. omega (arith, e)) ∙ a.gate;
  some_notes = λ j le.
      elim (cases_eq j k) [
        | inl e ↦ subst (λ i. get_or (set words (NOTES + k) (get_or notes k 0)) (NOTES + i) 0 ≡ get_or notes i 0) (sym e)
            (get_or-set_same words (NOTES + k) (get_or notes k 0) 0 (omega (arith, lt, a.size)))
        | inr ne ↦ get_or-set_other words (NOTES + k) (NOTES + j) (get_or notes k 0) 0 (λ e. ne (omega (arith, e))) ∙ a.some_notes j (omega (arith, le, ne))
      ];
  own = λ j. get_or-set_other words (NOTES + k) (OWN + j) (get_or notes k 0) 0 (λ e. omega (arith, e, lt)) ∙ a.own j;
}

-- and none of them
zeros : (n k : ℕ) → get_or {A = ℕ} (replicate n 0) k 0 ≡ 0
zeros zero k = refl
zeros (suc n) zero = refl
zeros (suc n) (suc k) = zeros n k

pub first_none : (notes : List ℕ) → AreFirst (set (replicate 51 0) GATE 2) notes 0
first_none notes = record {
  size = refl;
  turn = refl;
  master = refl;
  gate = refl;
  some_notes = λ j le. absurd (omega (arith, le));
  own = λ j. get_or-set_other (replicate 51 0) GATE (OWN + j) 2 0 (λ e. omega (arith, e)) ∙ zeros 51 (OWN + j);
}

-- the note of what a bus tells is that of its notes
pub note_of : (harts mask : ℕ) (notes : Notes) (k : ℕ) → note (told_of harts mask notes) k ≡ get_or (note_words notes) k 0
unfolding note
note_of harts mask notes k = refl

-- words that are the notes of a view, one by one, are all of them
pub all_notes : {B : Type 0} (words : List ℕ) (v : View B) → length words ≡ 16 → ((j : ℕ) → j < 16 → get_or words j 0 ≡ note (view_told v) j) → words ≡ note_words v.notes
all_notes words v size each =
    same_lists words (note_words v.notes) (omega (arith, size))
    (λ k d lt.
    default_free words k d 0 lt
    ∙ (each k (omega (arith, lt, size)) ∙ (note_of v.at.harts v.mask v.notes k ∙ sym (default_free (note_words v.notes) k d 0 (omega (arith, lt, size))))))

-- the notes that were made words are those of what the bus tells
pub words_of : (b : Told) (harts mask : ℕ) (notes : Notes) (words : List ℕ) → words ≡ note_words notes → b ≡ told_of harts mask notes → words ≡ note_words (notes_in b)
words_of b harts mask notes words e f = e ∙ ap (λ x. note_words (notes_in x)) (sym f)

-- the origin of a bus over a call
pub origin_over : {B : Type 0} (same : B → B → Type 0) (start : Option B) (b b2 : B) → ((x y z : B) → same x y → same y z → same x z) → IsOrigin same start b → same b b2 → IsOrigin same start b2
origin_over same None b b2 on o s = absurd o
origin_over same (Some a) b b2 on o s = on a b b2 o s

module _ {B : Type 0} where
  -- what a load of a note gave
  pub loaded_note : (me me2 : Me (Option (Slot B)) (View B)) (n i j : ℕ) → me ≡ me2 → me2.0.stored ≡ [] → i ≡ j → n ≡ note_now me.0 i → n ≡ note (view_told me2.0) j
  loaded_note me me2 n i j e none f loaded =
      loaded ∙ (ap (λ m. note_now m.0 i) e ∙ (ap (note_now me2.0) f ∙ ap (λ l. get_or l j (note (view_told me2.0) j)) none))

  -- the slot that a seat holds alone
  pub holds_slot : (me : Me (Option (Slot B)) (View B)) (v : View B) (x : Option (Slot B)) → me ≡ seat_with v ((0, x) ∷ []) → me.1 ≡ (0, x) ∷ rest me.1
  holds_slot me v x e = subst (λ (m : Me (Option (Slot B)) (View B)). m.1 ≡ (0, x) ∷ rest m.1) (sym e) refl

  -- what lies in the slot that was taken last
  abbrev pub slot_in : List (ℕ × Option (Slot B)) → Option (Slot B)
  slot_in [] = None
  slot_in (x ∷ xs) = x.1

  -- the slot that is read is the one that was taken
  pub slot_read : (me : Me (Option (Slot B)) (View B)) (v : View B) (x y : Option (Slot B)) → me ≡ seat_with v ((0, x) ∷ []) → me.1 ≡ (0, y) ∷ rest me.1 → y ≡ x
  slot_read me v x y e f = sym (ap slot_in f) ∙ ap (λ (m : Me (Option (Slot B)) (View B)). slot_in m.1) e

  -- the seat with the bus back in the slot
  pub give_me : (me me2 me3 : Me (Option (Slot B)) (View B)) (words : List ℕ) (x : Option (Slot B)) → me3 ≡ seat_with me2.0 ((0, x) ∷ rest me2.1) → me2 ≡ with_stored words me → me.1 ≡ (0, None) ∷ []
      → me3 ≡ seat_with (record me.0 { stored = words }) ((0, x) ∷ [])
  give_me me me2 me3 words x e f o =
      e ∙ (ap (λ (m : Me (Option (Slot B)) (View B)). seat_with m.0 ((0, x) ∷ rest m.1)) f ∙ ap (λ l. seat_with (record me.0 { stored = words }) ((0, x) ∷ rest l)) o)

  -- the seat after the turn is given back
  pub gave_me : (me me2 : Me (Option (Slot B)) (View B)) (v : View B) (bus : B) (last : Answer) → me2 ≡ seat_with (moved_to (after_call (last_of me.1) me.0.at) me.0) (rest me.1)
      → me ≡ seat_with v ((0, Some (record { bus = bus; last = last })) ∷ []) → me2 ≡ seat_with (moved_to (after_call last v.at) v) []
  gave_me me me2 v bus last e f =
      e ∙ ap (λ (m : Me (Option (Slot B)) (View B)). seat_with (moved_to (after_call (last_of m.1) m.0.at) m.0) (rest m.1)) f

-- of the two things that a compare and exchange says, the one for the word that was expected
pub was_seen : (n seen : ℕ) (P Q : Type 0) → n ≡ seen → MatchBool (n == seen) P Q → P
was_seen n seen P Q e m = subst (λ b. MatchBool b P Q) (eq-eqb n seen e) m

pub was_other : (n seen : ℕ) (P Q : Type 0) → (n ≡ seen → ⊥) → MatchBool (n == seen) P Q → Q
was_other n seen P Q e m = subst (λ b. MatchBool b P Q) (ne_eqb n seen e) m

-- the call as the view knows it
pub honest_at : (a : Act) (at : Standing) (b b2 after : Told) (r : Answer) → a ≡ act_of at.hart.0 at.phase → b ≡ b2 → HonestCall a b r after → HonestCall (act_of at.hart.0 at.phase) b2 r after
honest_at a at b b2 after r e f x = subst (λ y. HonestCall (act_of at.hart.0 at.phase) y r after) f (subst (λ y. HonestCall y b r after) e x)
