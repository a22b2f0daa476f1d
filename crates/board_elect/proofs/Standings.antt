-- A pass stays ready over each election step.
use Rattle.std.proofs.Common.{◌≡◌, ℕ, ◌<◌, Bool, true, false, refl, sym, ◌∙◌, ap, subst, Option}
use Rattle.std.specs.Prelude.{Result, Ok, Err, IfErr, IfOk, IsTrue, is_ok}
use Rattle.std.specs.Bool.{OnTrue}
use Rattle.std.proofs.lemmas.Bool.{both_ways}
use Rattle.atomic_table.specs.Seated.{TableId}
use Rattle.atomic_table.specs.declared.shared.Seat.{Seat}
use Rattle.deck_core.specs.decks.Seat.{at_place as seat_at, clears, looks_in}
use Rattle.deck_core.specs.ticks.Tick.{is_busy}
use Rattle.deck_core.specs.ticks.NextPhase.{GoesOn, after_clear, after_look, after_shut, is_transaction}
use Rattle.deck_core.specs.declared.plain.phase.Looks.{Looks}
use Rattle.deck_core.specs.declared.plain.phase.Phase.{Phase}
use Rattle.deck_core.specs.declared.plain.phase.Phase.TheVariants as phase
use Rattle.deck_core.specs.declared.plain.phase.Place.{Place}
use Rattle.deck_core.specs.declared.plain.phase.Place.TheVariants as place
use Rattle.deck_core.proofs.Programs.{looks_go_on, shut_goes_on}
use Rattle.board_turn.specs.declared.view.Slot.{Slot}
use Rattle.board_turn.specs.declared.view.Standing.{Standing}
use Rattle.board_turn.specs.declared.view.View.{View}
use Rattle.board_turn.specs.declared.board.Busy.{Busy}
use Rattle.board_turn.specs.declared.board.Pass.{Pass}
use Rattle.board_turn.specs.Plays.{at_place, moved_to}
use Rattle.board_turn.specs.Ready.{SawFree, SitsAt, seat_in}
use Rattle.board_turn.proofs.Readies.{steps_on}
use Rattle.board_elect.specs.declared.masters.Taken.{Taken}
use Rattle.board_elect.specs.Plays.{after_looking, after_shutting, is_counted, to_phase}

-- outside a transaction the view of a seat is before a load
pub stands_out : {B : Type 0} {table : TableId} {seat : Seat (Option (Slot B)) (View B)} {at : Standing} → SitsAt table seat at → is_transaction at.phase ≡ false → seat.me.0.at.place ≡ place.Peek
stands_out r out = ap (λ (a : Standing). a.place) r.view ∙ r.outside out

-- nothing was seen before a load
saw_none : (h : ℕ) (p : Phase) (at : Place) → at ≡ place.Peek → SawFree h p at
saw_none h p at e = subst (SawFree h p) (sym e) tt

clear_in_range : (limit harts h : ℕ) (p : Phase) → clears p ≡ true → GoesOn limit harts h (after_clear p)
clear_in_range limit harts h (phase.Unmark gate) e = tt
clear_in_range limit harts h phase.Drop e = tt
clear_in_range limit harts h _ e = absurd (both_ways false refl e)

module _ {B : Type 0} (table : TableId) (seat seat2 : Seat (Option (Slot B)) (View B)) (at : Standing) (r : SitsAt table seat at) (t : seat2.table_id ≡ seat.table_id) where
  -- to a phase that keeps what is in range
  pub phase_on : (f : Standing → Standing) (p : Phase) → is_transaction at.phase ≡ false → seat2.me ≡ (moved_to (f seat.me.0.at) seat.me.0, seat.me.1) → f at ≡ to_phase p at
      → GoesOn at.limit at.harts at.hart.0 p → SitsAt table seat2 (to_phase p at)
  phase_on f p out e same range =
      steps_on table seat seat2 at (to_phase p at) f r t e (sym same) refl
      (record {
        hart = refl;
        harts = refl;
        limit = refl;
        made = refl;
        outside = λ o. r.outside out;
        in_range = range;
        saw = saw_none at.hart.0 p at.place (r.outside out);
      })

  pub clear_on : clears at.phase ≡ true → seat2.me ≡ (moved_to (to_phase (after_clear seat.me.0.at.phase) seat.me.0.at) seat.me.0, seat.me.1) → is_transaction at.phase ≡ false → SitsAt table seat2 (to_phase (after_clear at.phase) at)
  clear_on c e out = phase_on (λ a. to_phase (after_clear a.phase) a) (after_clear at.phase) out e refl (clear_in_range at.limit at.harts at.hart.0 at.phase c)

  pub shut_on : (n : ℕ) → at.phase ≡ phase.Shut → seat2.me ≡ (moved_to (after_shutting n seat.me.0.at) seat.me.0, seat.me.1) → SitsAt table seat2 (after_shutting n at)
  shut_on n p e =
      let peek : at.place ≡ place.Peek = r.outside (ap is_transaction p) in
      steps_on table seat seat2 at (after_shutting n at) (after_shutting n) r t e refl refl
      (record {
        hart = refl;
        harts = refl;
        limit = refl;
        made = refl;
        outside = λ o. peek;
        in_range = shut_goes_on at.limit at.harts at.hart.0;
        saw = saw_none at.hart.0 (after_shut at.harts at.hart.0) at.place peek;
      })

-- the word that was seen, where the turn wasn't busy
pub seen_where_free : {B : Type 0} (r : Result ℕ Busy) (ok idle : Bool) (pass pass2 : Pass B) → ok ≡ is_ok r
    → IfOk r (λ word. (is_busy pass.stand.hart.0 pass.stand.phase word ≡ false) × (pass2.stand ≡ at_place (place.Take word) pass.stand))
    → OnTrue ok ((word : ℕ) × (seat_in false pass2 ≡ seat_at (place.Take word) (seat_in idle pass)))
seen_where_free {B} (Ok word) ok idle pass pass2 e f =
    subst (λ b. OnTrue b ((n : ℕ) × (seat_in false pass2 ≡ seat_at (place.Take n) (seat_in idle pass)))) (sym e)
    (word, ap (λ (s : Standing). seat_in false (record pass { stand = s })) f.1)
seen_where_free {B} (Err busy) ok idle pass pass2 e f =
    subst (λ b. OnTrue b ((n : ℕ) × (seat_in false pass2 ≡ seat_at (place.Take n) (seat_in idle pass)))) (sym e) tt

module _ {B : Type 0} (table : TableId) (seat seat2 : Seat (Option (Slot B)) (View B)) (at : Standing) (r : SitsAt table seat at) (t : seat2.table_id ≡ seat.table_id) where
  -- a look
  pub look_on : (looks : Looks) (n : ℕ) (counts : Bool) (p : Phase) → at.phase ≡ phase.Gather looks → seat2.me ≡ (moved_to (after_looking n seat.me.0.at) seat.me.0, seat.me.1)
      → counts ≡ is_counted at n → p ≡ after_look at.limit at.harts at.hart.0 looks counts → SitsAt table seat2 (to_phase p at)
  look_on looks n counts p e moved f leads =
      let range : (looks.next < at.harts) × (looks.rounds < at.limit) = subst (GoesOn at.limit at.harts at.hart.0) e r.in_range in
      let next : p ≡ after_look at.limit at.harts at.hart.0 (looks_in at.phase) (is_counted at n) =
      leads ∙ (ap (after_look at.limit at.harts at.hart.0 looks) f ∙ ap (λ q. after_look at.limit at.harts at.hart.0 (looks_in q) (is_counted at n)) (sym e)) in
      phase_on table seat seat2 at r t (after_looking n) p (ap is_transaction e) moved (ap (λ q. to_phase q at) (sym next))
      (subst (GoesOn at.limit at.harts at.hart.0) (sym leads) (looks_go_on at.limit at.harts at.hart.0 looks counts range.0 range.1))

-- what both answers of a call leave
pub peek_made : {B : Type 0} (r : Result ℕ Busy) (pass pass2 : Pass B) → IfOk r (λ word. (is_busy pass.stand.hart.0 pass.stand.phase word ≡ false) × (pass2.stand ≡ at_place (place.Take word) pass.stand))
    → IfErr r (λ b. IsTrue (is_busy pass.stand.hart.0 pass.stand.phase b.seen) × (pass2.stand ≡ pass.stand)) → pass.stand.made ≡ pass2.stand.made
peek_made (Ok word) pass pass2 f e = sym (ap (λ (s : Standing). s.made) f.1)
peek_made (Err busy) pass pass2 f e = sym (ap (λ (s : Standing). s.made) e.1)

pub try_made : {B : Type 0} (r : Result (Unit {0}) Taken) (pass pass2 : Pass B) → IfOk r (λ u. pass2.stand ≡ to_phase phase.Own pass.stand)
    → IfErr r (λ t. (pass2.stand ≡ pass.stand) × (t.by.0 < pass.stand.harts)) → pass.stand.made ≡ pass2.stand.made
try_made (Ok u) pass pass2 f e = sym (ap (λ (s : Standing). s.made) f)
try_made (Err t) pass pass2 f e = sym (ap (λ (s : Standing). s.made) e.0)
