-- What every step has in common: one seat's view changes, and the rule still holds of the others.
use Rattle.std.proofs.Common.{◌≡◌, ℕ, suc, ◌+◌, ◌<◌, ◌≤◌, true, false, List, length, set, refl, sym, ◌∙◌, ap, subst, inl, inr, arith, Option}
use mathlib.Core.Option.{some}
use mathlib.Core.Option as maybe
use lib.ListN.{get_elem?}
use Rattle.std.proofs.lemmas.Bool.{both_ways, cases_eq, eqb-true}
use Rattle.std.proofs.lemmas.List.{length-set}
use Rattle.atomic_table.specs.Table.{State}
use Rattle.deck_core.specs.Invariant.{Sound}
use Rattle.deck_core.specs.contract.Told.{Told}
use Rattle.deck_core.specs.plain.Words.{holder_of}
use Rattle.deck_core.specs.ticks.Configuration.{Configuration}
use Rattle.deck_core.specs.ticks.Phases.{holds, is_shut, is_masters}
use Rattle.deck_core.specs.declared.plain.phase.Phase.{Phase}
use Rattle.deck_core.specs.declared.plain.phase.Phase.TheVariants as phase
use Rattle.deck_core.specs.declared.plain.note_words.TheConstants.{NOTE_WORDS}
use Rattle.deck_core.proofs.Conditions.{one_master}
use Rattle.board_turn.specs.declared.view.View.{View}
use Rattle.board_turn.specs.declared.view.Slot.{Slot}
use Rattle.board_turn.specs.declared.words.TheConstants.{TURN, GATE, NOTES, WORDS}
use Rattle.board_turn.specs.Shown.{word, view_of, blank_view, shown}
use Rattle.board_turn.specs.Rule.{Ruled, SeatFits, IsSeatOf, IsHome, Counts}
use Rattle.board_turn.proofs.Lists.{At, at_get}
use Rattle.board_turn.proofs.Shows.{view_same, view_other, shown-place, shown-phase}

-- a hart that holds the turn is its holder; there is one
pub holder_is : (c : Configuration) (h : ℕ) → Sound c → holds (c.place h) ≡ true → holder_of c.turn ≡ suc h
holder_is c h s e = eqb-true (holder_of c.turn) (suc h) (sym (s.turn h).holder ∙ e)

-- the gate is shut in a master's phase alone
pub shut_masters : (p : Phase) → is_shut p ≡ true → is_masters p ≡ true
shut_masters phase.Own e = refl
shut_masters phase.Shut e = refl
shut_masters phase.Drop e = refl
shut_masters phase.Free e = refl
shut_masters _ e = e

module _ {B : Type 0} (told_by : B → Told) (same : B → B → Type 0) where
  -- the seat that makes a step
  pub record Sits (s : State (Option (Slot B)) (View B)) (r : Ruled told_by same s) (id : ℕ) (v : View B) : Type 0 where
    pub there : id < length s.views
    pub here : view_of s.views id ≡ v
    pub seat : IsSeatOf r.rounds r.start s.words r.told id v

  pub sits : (s : State (Option (Slot B)) (View B)) (r : Ruled told_by same s) (id : ℕ) (v : View B) → get_elem? s.views id ≡ some v → v.live ≡ true → Sits s r id v
  sits s r id v at live =
      let a : At s.views id v blank_view = at_get s.views id v blank_view at in
      let fits : SeatFits r.rounds r.start s.words r.told id v = subst (λ u. SeatFits r.rounds r.start s.words r.told id u) a.here (r.seats id) in
      record { there = a.there; here = a.here; seat = fits.live live }

  -- its phase and place are shown
  pub phase_shown : (s : State (Option (Slot B)) (View B)) (r : Ruled told_by same s) (id : ℕ) (v : View B) → Sits s r id v → (shown r.rounds s.words s.views r.told).phase id ≡ v.at.phase
  phase_shown s r id v x = shown-phase r.rounds s.words s.views r.told id ∙ ap (λ u. u.at.phase) x.here

  pub place_shown : (s : State (Option (Slot B)) (View B)) (r : Ruled told_by same s) (id : ℕ) (v : View B) → Sits s r id v → (shown r.rounds s.words s.views r.told).place id ≡ v.at.place
  place_shown s r id v x = shown-place r.rounds s.words s.views r.told id ∙ ap (λ u. u.at.place) x.here

  -- another seat holds the turn in no board where this one does
  pub one_holder : (s : State (Option (Slot B)) (View B)) (r : Ruled told_by same s) (id k : ℕ) (v : View B) → Sits s r id v → holds v.at.place ≡ true → holds (view_of s.views k).at.place ≡ true → k ≡ id
  one_holder s r id k v x mine other =
      let c : Configuration = shown r.rounds s.words s.views r.told in
      let a : holder_of c.turn ≡ suc id = holder_is c id r.sound (ap holds (place_shown s r id v x) ∙ mine) in
      let b : holder_of c.turn ≡ suc k = holder_is c k r.sound (ap holds (shown-place r.rounds s.words s.views r.told k) ∙ other) in
      omega (arith, a, b)

  -- nor is another one the master
  pub one_shut : (s : State (Option (Slot B)) (View B)) (r : Ruled told_by same s) (id k : ℕ) (v : View B) → Sits s r id v → is_masters v.at.phase ≡ true → is_shut (view_of s.views k).at.phase ≡ true → k ≡ id
  one_shut s r id k v x mine other =
      let c : Configuration = shown r.rounds s.words s.views r.told in
      sym (one_master c id k r.sound (ap is_masters (phase_shown s r id v x) ∙ mine)
      (ap is_masters (shown-phase r.rounds s.words s.views r.told k) ∙ shut_masters (view_of s.views k).at.phase other))

  -- a seat that doesn't move, where the gate's number and the notes stay
  pub seat_stays : (rounds : ℕ) (start : Option B) (words words2 : List ℕ) (b : Told) (k : ℕ) (u : View B)
      → (is_shut u.at.phase ≡ true → word words2 GATE ≡ word words GATE) → ((j : ℕ) → j < NOTE_WORDS → word words2 (NOTES + j) ≡ word words (NOTES + j))
      → SeatFits rounds start words b k u → SeatFits rounds start words2 b k u
  seat_stays rounds start words words2 b k u gate notes f = record {
    live = λ t.
        let x = f.live t in
        record {
          hart = x.hart;
          below = x.below;
          of_rounds = x.of_rounds;
          of_harts = x.of_harts;
          of_start = x.of_start;
          gate = λ e. x.gate e ∙ sym (gate e);
          holder = λ e. record { tells = (x.holder e).tells; notes = λ j lt. notes j lt ∙ (x.holder e).notes j lt };
        };
    spent = f.spent;
  }

  -- the seats, where one moves and each other fits
  pub seats_fit : (rounds : ℕ) (start : Option B) (words : List ℕ) (b : Told) (views : List (View B)) (id : ℕ) (w : View B) → id < length views → SeatFits rounds start words b id w
      → ((k : ℕ) → (k ≡ id → ⊥) → SeatFits rounds start words b k (view_of views k)) → (k : ℕ) → SeatFits rounds start words b k (view_of (set views id w) k)
  seats_fit rounds start words b views id w lt here others k =
      elim (cases_eq k id) [
        | inl e ↦ subst (λ j. SeatFits rounds start words b j (view_of (set views id w) j)) (sym e)
            (subst (λ u. SeatFits rounds start words b id u) (sym (view_same views id w lt)) here)
        | inr ne ↦ subst (λ u. SeatFits rounds start words b k u) (sym (view_other views id w k ne)) (others k ne)
      ]

  -- a seat that is a hart's fits
  pub live_fits : (rounds : ℕ) (start : Option B) (words : List ℕ) (b : Told) (k : ℕ) (w : View B) → w.live ≡ true → IsSeatOf rounds start words b k w → SeatFits rounds start words b k w
  live_fits rounds start words b k w live x = record { live = λ t. x; spent = λ f. absurd (both_ways w.live f live) }

  -- the counts, where a seat moves and hart 0's numbers stay
  pub counts_stay : (views : List (View B)) (id : ℕ) (v w : View B) → id < length views → view_of views id ≡ v → v.live ≡ true → w.at.made ≡ v.at.made → w.left ≡ v.left
      → Counts views (view_of views 0) → Counts (set views id w) (view_of (set views id w) 0)
  counts_stay views id v w lt here live made left c =
      let first : (view_of (set views id w) 0).at.made ≡ (view_of views 0).at.made =
      elim (cases_eq 0 id) [
        | inl e ↦ subst (λ j. (view_of (set views j w) 0).at.made ≡ (view_of views 0).at.made) e
            (ap (λ u. u.at.made) (view_same views 0 w (subst (λ j. j < length views) (sym e) lt))
            ∙ (made ∙ ap (λ u. u.at.made) (sym here) ∙ ap (λ j. (view_of views j).at.made) (sym e)))
        | inr ne ↦ ap (λ u. u.at.made) (view_other views id w 0 ne)
      ] in
      let from : (view_of (set views id w) 0).left ≡ (view_of views 0).left =
      elim (cases_eq 0 id) [
        | inl e ↦ subst (λ j. (view_of (set views j w) 0).left ≡ (view_of views 0).left) e
            (ap (λ u. u.left) (view_same views 0 w (subst (λ j. j < length views) (sym e) lt))
            ∙ (left ∙ ap (λ u. u.left) (sym here) ∙ ap (λ j. (view_of views j).left) (sym e)))
        | inr ne ↦ ap (λ u. u.left) (view_other views id w 0 ne)
      ] in
      record {
        made = first ∙ (c.made ∙ sym (length-set views id w));
        left = λ k le.
            let old : (view_of views k).live ≡ false = c.left k (subst (λ n. n ≤ k) from le) in
            ap (λ u. u.live) (view_other views id w k (λ e. both_ways v.live (ap (λ u. u.live) (sym here) ∙ (ap (λ j. (view_of views j).live) (sym e) ∙ old)) live)) ∙ old;
      }

  -- the bus at home, where the notes stay
  pub home_stays : (start : Option B) (words words2 : List ℕ) (b : Told) (homes : List (maybe.Option (Option (Slot B)))) → ((j : ℕ) → j < NOTE_WORDS → word words2 (NOTES + j) ≡ word words (NOTES + j))
      → IsHome told_by same start words b homes → IsHome told_by same start words2 b homes
  home_stays start words words2 b homes notes x = record {
    bus = x.bus;
    last = x.last;
    here = x.here;
    tells = x.tells;
    origin = x.origin;
    notes = λ j lt. notes j lt ∙ x.notes j lt;
  }

  -- a seat keeps its numbers
  pub record SameSeat (v w : View B) : Type 0 where
    pub live : w.live ≡ true
    pub hart : w.at.hart.0 ≡ v.at.hart.0
    pub limit : w.at.limit ≡ v.at.limit
    pub harts : w.at.harts ≡ v.at.harts
    pub start : w.start ≡ v.start
    pub made : w.at.made ≡ v.at.made
    pub left : w.left ≡ v.left

  -- a step of a seat that doesn't hold the turn after it, which leaves the turn word and the notes
  pub record Quiet (s : State (Option (Slot B)) (View B)) (r : Ruled told_by same s) (id : ℕ) (v w : View B) (words : List ℕ) : Type 0 where
    pub size : length words ≡ WORDS
    pub turn : word words TURN ≡ word s.words TURN
    pub notes : (j : ℕ) → j < NOTE_WORDS → word words (NOTES + j) ≡ word s.words (NOTES + j)
    pub gates : (k : ℕ) → (k ≡ id → ⊥) → is_shut (view_of s.views k).at.phase ≡ true → word words GATE ≡ word s.words GATE
    pub seat : SameSeat v w
    pub gate : is_shut w.at.phase ≡ true → w.at.gate ≡ word words GATE
    pub out : holds w.at.place ≡ false
    pub sound : Sound (shown r.rounds words (set s.views id w) r.told)

  pub quiet : (s : State (Option (Slot B)) (View B)) (r : Ruled told_by same s) (id : ℕ) (v w : View B) (words : List ℕ) → v.live ≡ true → Sits s r id v → Quiet s r id v w words
      → Ruled told_by same (record { words = words; homes = s.homes; views = set s.views id w })
  quiet s r id v w words live x q = record {
    rounds = r.rounds;
    start = r.start;
    told = r.told;
    sound = q.sound;
    all_words = q.size;
    one_slot = r.one_slot;
    seats = seats_fit r.rounds r.start words r.told s.views id w x.there
        (live_fits r.rounds r.start words r.told id w q.seat.live (record {
          hart = q.seat.hart ∙ x.seat.hart;
          below = x.seat.below;
          of_rounds = q.seat.limit ∙ x.seat.of_rounds;
          of_harts = q.seat.harts ∙ x.seat.of_harts;
          of_start = q.seat.start ∙ x.seat.of_start;
          gate = q.gate;
          holder = λ e. absurd (both_ways (holds w.at.place) q.out e);
        }))
        (λ k ne. seat_stays r.rounds r.start s.words words r.told k (view_of s.views k) (q.gates k ne) q.notes (r.seats k));
    home = λ e. home_stays r.start s.words words r.told s.homes q.notes (r.home (ap holder_of (sym q.turn) ∙ e));
    counts = counts_stay s.views id v w x.there x.here live q.seat.made q.seat.left r.counts;
  }
