-- Each step on the turn word and on the notes keeps the rule.
use Rattle.std.proofs.Common.{◌≡◌, ℕ, suc, zero, ◌+◌, ◌-◌, ◌<◌, ◌==◌, Bool, true, false, List, [], ◌∷◌, ◌++◌, length, get_or, set, refl, sym, ◌∙◌, ap, subst, inl, inr, arith, Option, Some, if◌then◌else◌}
use mathlib.Core.Option.{none, some}
use prog.Atomic.{either}
use Rattle.std.specs.Prelude.{MatchBool}
use Rattle.std.proofs.lemmas.Bool.{both_ways, cases_eq, cases_lt, cases_Bool, eqb-true, eqb-false, and_from}
use Rattle.std.proofs.lemmas.List.{get_or-set_same, get_or-set_other, length-set}
use Rattle.atomic_table.specs.Table.{State, Me, Act, Allows, Valid, carried_after, stepped, step}
use Rattle.atomic_table.specs.Table as table
use Rattle.atomic_table.proofs.Lists.{set_here, set_again}
use Rattle.deck_core.specs.Invariant.{Sound, SeenFree}
use Rattle.deck_core.specs.contract.Told.{Told, told_of}
use Rattle.deck_core.specs.contract.Allowed.{is_allowed}
use Rattle.deck_core.specs.contract.Calls.{HonestCall}
use Rattle.deck_core.specs.plain.NoteWords.{note_words}
use Rattle.deck_core.specs.plain.Words.{holder_of, mask_of, turn_word}
use Rattle.deck_core.specs.ticks.Configuration.{Configuration}
use Rattle.deck_core.specs.ticks.NextPhase.{act_of, after_answer, is_transaction}
use Rattle.deck_core.specs.ticks.Phases.{holds}
use Rattle.deck_core.specs.ticks.Tick.{Ticks, is_busy, peeks}
use Rattle.deck_core.specs.declared.plain.act.Answer.{Answer}
use Rattle.deck_core.specs.declared.plain.note_words.TheConstants.{NOTE_WORDS}
use Rattle.deck_core.specs.declared.plain.phase.Place.{Place}
use Rattle.deck_core.specs.declared.plain.phase.Place.TheVariants as place
use Rattle.deck_core.proofs.Conditions.{call_is_allowed}
use Rattle.deck_core.proofs.EveryTick.{every_tick_keeps}
use Rattle.deck_core.proofs.Flats.{acts_harts, give_ticks}
use Rattle.deck_core.proofs.Joined.{shut_before}
use Rattle.deck_core.proofs.Transactions.{peek_keeps, take_keeps}
use Rattle.deck_core.proofs.TurnWords.{holder_of-turn_word, mask_of-lt}
use Rattle.board_turn.specs.declared.view.View.{View}
use Rattle.board_turn.specs.declared.view.Slot.{Slot}
use Rattle.board_turn.specs.declared.words.TheConstants.{TURN, GATE, NOTES, WORDS}
use Rattle.board_turn.specs.Shown.{word, note, notes_in, view_of, view_told, shown}
use Rattle.board_turn.specs.Rule.{Ruled, SeatFits, IsSeatOf, HoldsTurn, IsHome, IsOrigin}
use Rattle.board_turn.specs.Plays.{Gives, Loads, Peeks, Stores, Takes, TakesBus, after_call, after_peek, at_place, moved_to, note_now, taken}
use Rattle.board_turn.proofs.Lists.{reload, snoc_new, snoc_old, snoc_past, past}
use Rattle.board_turn.proofs.Shows.{SameWords, note_shown, peek_shown, take_shown, miss_shown, give_shown, shown_stays, shown-phase, shown-place, shown-told, shown-turn, view_same}
use Rattle.board_turn.proofs.Rules.{Sits, sits, quiet, seat_stays, seats_fit, live_fits, counts_stay, one_holder, holder_is, phase_shown, place_shown}

-- a place after the load of the turn word holds no turn
peek_out : (busy : Bool) (at : Place) (n : ℕ) → holds at ≡ false → holds (if busy then at else place.Take n) ≡ false
peek_out true at n e = e
peek_out false at n e = refl

-- a default doesn't matter where there is an element
pub default_free : (l : List ℕ) (k d e : ℕ) → k < length l → get_or l k d ≡ get_or l k e
default_free [] k d e lt = absurd (omega arith)
default_free (x ∷ xs) zero d e lt = refl
default_free (x ∷ xs) (suc k) d e lt = default_free xs k d e (omega arith)

-- a note of those that are there
note_default : (b : Told) (j d : ℕ) → j < NOTE_WORDS → get_or (note_words (notes_in b)) j d ≡ note b j
unfolding note
note_default b j d lt = default_free (note_words (notes_in b)) j d 0 (omega (arith, lt))

-- one more element elsewhere
snoc_else : (l : List ℕ) (a d k : ℕ) → (k ≡ length l → ⊥) → get_or (l ++ a ∷ []) k d ≡ get_or l k d
snoc_else l a d k ne =
    elim (cases_lt k (length l)) [
      | inl lt ↦ snoc_old l a d k lt
      | inr le ↦ snoc_past l a d k (omega (arith, le, ne)) ∙ sym (past l d k le)
    ]

-- a word elsewhere than a write
pub other_word : (words : List ℕ) (i j n : ℕ) → (j ≡ i → ⊥) → word (set words i n) j ≡ word words j
other_word words i j n ne = get_or-set_other words i j n 0 ne

pub turn_there : (words : List ℕ) → length words ≡ WORDS → TURN < length words
turn_there words e = omega (arith, e)

-- a seat by its view and the slots that it holds
abbrev pub seat_with : {B : Type 0} → View B → List (ℕ × Option (Slot B)) → Me (Option (Slot B)) (View B)
seat_with v out = (v, out)

module _ {B : Type 0} (told_by : B → Told) (same : B → B → Type 0) where
  -- a rule over words that are the same
  pub over_words : (s : State (Option (Slot B)) (View B)) (views : List (View B)) (words : List ℕ) → words ≡ s.words → Ruled told_by same (record { words = s.words; homes = s.homes; views = views })
      → Ruled told_by same (record { words = words; homes = s.homes; views = views })
  over_words s views words e r = subst (λ ws. Ruled told_by same (record { words = ws; homes = s.homes; views = views })) (sym e) r

  -- a seat goes to a place where it doesn't hold the turn, and no word changes
  goes_quietly : (s : State (Option (Slot B)) (View B)) (r : Ruled told_by same s) (id : ℕ) (to : Place) (v : View B) → v.live ≡ true → Sits told_by same s r id v → holds to ≡ false
      → Sound (shown r.rounds s.words (set s.views id (moved_to (at_place to v.at) v)) r.told) → Ruled told_by same (record { words = s.words; homes = s.homes; views = set s.views id (moved_to (at_place to v.at) v) })
  goes_quietly s r id to v live x out sound =
      quiet told_by same s r id v (moved_to (at_place to v.at) v) s.words live x (record {
        size = r.all_words;
        turn = refl;
        notes = λ j lt. refl;
        gates = λ k ne e. refl;
        seat = record { live = live; hart = refl; limit = refl; harts = refl; start = refl; made = refl; left = refl };
        gate = x.seat.gate;
        out = out;
        sound = sound;
      })

  -- the load of the turn word
  pub peeks_allowed : (slots id : ℕ) (me : Me (Option (Slot B)) (View B)) → me.0.live ≡ true → me.0.at.place ≡ place.Peek
      → Allows (Ruled told_by same) slots id me TURN (λ n. n) (Peeks (step slots TURN 0 0 none) me)
  peeks_allowed slots id me live p s r wide at small =
      let v : View B = me.0 in
      let turn : ℕ = word s.words TURN in
      let w : View B = moved_to (after_peek turn v.at) v in
      let c : Configuration = shown r.rounds s.words s.views r.told in
      let x : Sits told_by same s r id v = sits told_by same s r id v at live in
      let busy_same : is_busy v.at.hart.0 v.at.phase turn ≡ is_busy id v.at.phase turn = ap (λ h. is_busy h v.at.phase turn) x.seat.hart in
      let shows : shown r.rounds s.words (set s.views id w) r.told ≡ peeks id v.at.phase c =
      peek_shown r.rounds s.words s.views r.told id v w x.there x.here p refl (ap (λ b. if b then v.at.place else place.Take turn) busy_same) in (
        w,
        table.keeps,
        tt,
        over_words s (set s.views id w) (set s.words TURN turn) (reload s.words TURN 0 (turn_there s.words r.all_words))
            (goes_quietly s r id (after_peek turn v.at).place v live x (peek_out (is_busy v.at.hart.0 v.at.phase turn) v.at.place turn (ap holds p))
            (subst Sound (sym shows) (peek_keeps c id v.at.phase r.sound (place_shown told_by same s r id v x ∙ p)))),
        refl,
      )

  -- the compare and exchange found another word
  miss : (s : State (Option (Slot B)) (View B)) (r : Ruled told_by same s) (id seen : ℕ) (v : View B) → v.live ≡ true → v.at.place ≡ place.Take seen → Sits told_by same s r id v → (word s.words TURN ≡ seen → ⊥)
      → Ruled told_by same (record { words = set s.words TURN (word s.words TURN); homes = s.homes; views = set s.views id (moved_to (at_place place.Peek v.at) v) })
  miss s r id seen v live p x ne =
      let w : View B = moved_to (at_place place.Peek v.at) v in
      let c : Configuration = shown r.rounds s.words s.views r.told in
      over_words s (set s.views id w) (set s.words TURN (word s.words TURN)) (reload s.words TURN 0 (turn_there s.words r.all_words))
      (goes_quietly s r id place.Peek v live x refl
      (subst Sound (sym (miss_shown r.rounds s.words s.views r.told id seen v w x.there x.here ne refl refl)) (take_keeps c id seen r.sound (place_shown told_by same s r id v x ∙ p))))

  -- it found the word that was seen: what the board shows is sound, and the rule holds
  module _ (s : State (Option (Slot B)) (View B)) (r : Ruled told_by same s) (id seen : ℕ) (v : View B) (live : v.live ≡ true) (p : v.at.place ≡ place.Take seen) (x : Sits told_by same s r id v) (e : word s.words TURN ≡ seen) where
    abbrev c : Configuration
    c = shown r.rounds s.words s.views r.told

    abbrev new : ℕ
    new = turn_word (mask_of seen) (suc id)

    seen_free : holder_of (word s.words TURN) ≡ 0
    seen_free = ap holder_of e ∙ subst SeenFree (place_shown told_by same s r id v x ∙ p) (r.sound.turn id).seen

    at_home : IsHome told_by same r.start s.words r.told s.homes
    at_home = r.home seen_free

    abbrev held : View B
    held = taken (told_by at_home.bus) v

    same_harts : (told_by at_home.bus).harts ≡ v.at.harts
    same_harts = ap (λ b. b.harts) at_home.tells ∙ sym x.seat.of_harts

    hit_sound : Sound (shown r.rounds (set s.words TURN new) (set s.views id held) r.told)
    hit_sound =
        subst Sound (sym (take_shown r.rounds s.words s.views r.told id seen v held x.there (turn_there s.words r.all_words) x.here e refl refl))
        (take_keeps c id seen r.sound (place_shown told_by same s r id v x ∙ p))

    hit : Ruled told_by same (record { words = set s.words TURN new; homes = set s.homes 0 none; views = set s.views id held })
    hit =
        let gate : word (set s.words TURN new) GATE ≡ word s.words GATE = other_word s.words TURN GATE new (λ y. omega (arith, y)) in
        let notes : (j : ℕ) → j < NOTE_WORDS → word (set s.words TURN new) (NOTES + j) ≡ word s.words (NOTES + j) = λ j lt. other_word s.words TURN (NOTES + j) new (λ y. omega (arith, y)) in
        let b : Told = told_by at_home.bus in
        let tells : r.told ≡ view_told held = sym at_home.tells ∙ ap (λ n. told_of n b.mask (notes_in b)) same_harts in
        record {
          rounds = r.rounds;
          start = r.start;
          told = r.told;
          sound = hit_sound;
          all_words = length-set s.words TURN new ∙ r.all_words;
          one_slot = length-set s.homes 0 none ∙ r.one_slot;
          seats = seats_fit told_by same r.rounds r.start (set s.words TURN new) r.told s.views id held x.there
              (live_fits told_by same r.rounds r.start (set s.words TURN new) r.told id held live (record {
                hart = x.seat.hart;
                below = x.seat.below;
                of_rounds = x.seat.of_rounds;
                of_harts = x.seat.of_harts;
                of_start = x.seat.of_start;
                gate = λ y. x.seat.gate y ∙ sym gate;
                holder = λ y. record { tells = tells; notes = λ j lt. notes j lt ∙ at_home.notes j lt };
              }))
              (λ k ne. seat_stays told_by same r.rounds r.start s.words (set s.words TURN new) r.told k (view_of s.views k) (λ y. gate) notes (r.seats k));
          home = λ y.
              let holder : holder_of (word (set s.words TURN new) TURN) ≡ suc id =
              ap holder_of (get_or-set_same s.words TURN new 0 (turn_there s.words r.all_words)) ∙ holder_of-turn_word (mask_of seen) (suc id) (mask_of-lt seen) in
              absurd (omega (arith, y, holder));
          counts = counts_stay told_by same s.views id v held x.there x.here live refl refl r.counts;
        }

    -- the phase's one call is allowed
    hit_allowed : is_transaction v.at.phase ≡ true → is_allowed (act_of v.at.hart.0 v.at.phase) (told_by at_home.bus) ≡ true
    hit_allowed t =
        let d : Configuration = shown r.rounds (set s.words TURN new) (set s.views id held) r.told in
        let ph : d.phase id ≡ v.at.phase = shown-phase r.rounds (set s.words TURN new) (set s.views id held) r.told id ∙ ap (λ u. u.at.phase) (view_same s.views id held x.there) in
        let pl : d.place id ≡ place.Give = shown-place r.rounds (set s.words TURN new) (set s.views id held) r.told id ∙ ap (λ u. u.at.place) (view_same s.views id held x.there) in
        let tells : d.told ≡ told_by at_home.bus = shown-told r.rounds (set s.words TURN new) (set s.views id held) r.told ∙ sym at_home.tells in
        let below : id < d.told.harts = subst (λ b. id < b.harts) (sym (shown-told r.rounds (set s.words TURN new) (set s.views id held) r.told)) x.seat.below in
        let allowed : is_allowed (act_of id (d.phase id)) d.told ≡ true =
        call_is_allowed d id hit_sound below (and_from (is_transaction (d.phase id)) (holds (d.place id)) (ap is_transaction ph ∙ t) (ap holds pl)) in
        sym (ap (λ b. is_allowed (act_of id (d.phase id)) b) tells ∙ (ap (λ q. is_allowed (act_of id q) (told_by at_home.bus)) ph ∙ ap (λ h. is_allowed (act_of h v.at.phase) (told_by at_home.bus)) (sym x.seat.hart))) ∙ allowed

  -- the holder's number in the turn word
  holder_seat : (s : State (Option (Slot B)) (View B)) (r : Ruled told_by same s) (id : ℕ) (v : View B) → Sits told_by same s r id v → holds v.at.place ≡ true → holder_of (word s.words TURN) ≡ suc id
  holder_seat s r id v x held =
      ap holder_of (sym (shown-turn r.rounds s.words s.views r.told)) ∙ holder_is (shown r.rounds s.words s.views r.told) id r.sound (ap holds (place_shown told_by same s r id v x) ∙ held)

  -- another seat, while this one holds the turn: it doesn't, so only the gate's number and that of harts matter
  seat_out : (s : State (Option (Slot B)) (View B)) (r : Ruled told_by same s) (id k : ℕ) (v : View B) (words : List ℕ) (b : Told) → Sits told_by same s r id v → holds v.at.place ≡ true → (k ≡ id → ⊥)
      → word words GATE ≡ word s.words GATE → b.harts ≡ r.told.harts → SeatFits r.rounds r.start words b k (view_of s.views k)
  seat_out s r id k v words b x held ne gate harts = record {
    live = λ t.
        let y : IsSeatOf r.rounds r.start s.words r.told k (view_of s.views k) = (r.seats k).live t in
        record {
          hart = y.hart;
          below = subst (λ n. k < n) (sym harts) y.below;
          of_rounds = y.of_rounds;
          of_harts = y.of_harts ∙ sym harts;
          of_start = y.of_start;
          gate = λ e. y.gate e ∙ sym gate;
          holder = λ e. absurd (ne (one_holder told_by same s r id k v x held e));
        };
    spent = (r.seats k).spent;
  }

  -- the compare and exchange of the turn word
  pub takes_allowed : (slots id seen : ℕ) (v : View B) → v.live ≡ true → is_transaction v.at.phase ≡ true → v.at.place ≡ place.Take seen
      → Allows (Ruled told_by same) slots id (v, []) TURN (λ n. either (n == seen) (turn_word (mask_of seen) (suc v.at.hart.0)) n) (Takes told_by same (step slots TURN seen (turn_word (mask_of seen) (suc v.at.hart.0)) none) (v, []))
  takes_allowed slots id seen v live t p s r wide at small =
      let x : Sits told_by same s r id v = sits told_by same s r id v at live in
      let found : ℕ = word s.words TURN in
      let to : ℕ = turn_word (mask_of seen) (suc v.at.hart.0) in
      let F : Bool → Type 0 = λ b.
      (w : View B) × (a : Act (Option (Slot B))) × Valid s.homes [] a × Ruled told_by same (stepped s TURN (either b to found) id [] w a)
      × MatchBool b (TakesBus told_by same v (w, carried_after [] a)) (seat_with w (carried_after [] a) ≡ seat_with (moved_to (at_place place.Peek v.at) v) []) in
      elim (cases_Bool (found == seen)) [
        | inl y ↦ subst F (sym y)
            (let e : found ≡ seen = eqb-true found seen y in
            let h : IsHome told_by same r.start s.words r.told s.homes = at_home s r id seen v live p x e in
            let slot : Slot B = record { bus = h.bus; last = h.last } in
            let w : View B = taken (told_by h.bus) v in (
              w,
              table.takes 0 (Some slot),
              h.here,
              subst (λ i. Ruled told_by same (record { words = set s.words TURN (turn_word (mask_of seen) (suc i)); homes = set s.homes 0 none; views = set s.views id w })) (sym x.seat.hart) (hit s r id seen v live p x e),
              record {
                bus = h.bus;
                last = h.last;
                seat = refl;
                harts = same_harts s r id seen v live p x e;
                origin = subst (λ o. IsOrigin same o h.bus) (sym x.seat.of_start) h.origin;
                allowed = hit_allowed s r id seen v live p x e t;
              },
            ))
        | inr n ↦ subst F (sym n) (
          moved_to (at_place place.Peek v.at) v,
          table.keeps,
          tt,
          miss s r id seen v live p x (eqb-false found seen n),
          refl,
        )
      ]

  -- the load of a note
  pub loads_allowed : (slots id j : ℕ) (me : Me (Option (Slot B)) (View B)) → me.0.live ≡ true → holds me.0.at.place ≡ true → j < NOTE_WORDS
      → Allows (Ruled told_by same) slots id me (NOTES + j) (λ n. n) (Loads (step slots (NOTES + j) 0 0 none) me)
  loads_allowed slots id j me live held lt s r wide at small =
      let v : View B = me.0 in
      let x : Sits told_by same s r id v = sits told_by same s r id v at live in
      let h : HoldsTurn s.words r.told v = x.seat.holder held in
      let there : NOTES + j < length s.words = omega (arith, lt, r.all_words) in
      let back : (NOTES + j) - NOTES ≡ j = omega arith in (
        v,
        table.keeps,
        tt,
        over_words s (set s.views id v) (set s.words (NOTES + j) (word s.words (NOTES + j))) (reload s.words (NOTES + j) 0 there)
            (subst (λ vs. Ruled told_by same (record { words = s.words; homes = s.homes; views = vs })) (sym (set_again s.views id v at)) r),
        (
          refl,
          h.notes j lt ∙ (ap (λ b. get_or v.stored j (note b j)) h.tells ∙ ap (note_now v) (sym back)),
        ),
      )

  -- the store of a note
  pub stores_allowed : (slots id n : ℕ) (me : Me (Option (Slot B)) (View B)) → me.0.live ≡ true → holds me.0.at.place ≡ true → length me.0.stored < NOTE_WORDS
      → Allows (Ruled told_by same) slots id me (NOTES + length me.0.stored) (λ m. n) (λ m. Stores (step slots (NOTES + length me.0.stored) n 0 none) me n)
  stores_allowed slots id n me live held lt s r wide at small =
      let v : View B = me.0 in
      let j : ℕ = length v.stored in
      let w : View B = record v { stored = v.stored ++ n ∷ [] } in
      let words : List ℕ = set s.words (NOTES + j) n in
      let x : Sits told_by same s r id v = sits told_by same s r id v at live in
      let h : HoldsTurn s.words r.told v = x.seat.holder held in
      let same_words : SameWords s.words words = note_shown s.words j n lt in
      let there : NOTES + j < length s.words = omega (arith, lt, r.all_words) in
      let shows : shown r.rounds words (set s.views id w) r.told ≡ shown r.rounds s.words s.views r.told =
      shown_stays r.rounds s.words words s.views r.told id w x.there same_words (ap (λ u. u.at.phase) (sym x.here)) (ap (λ u. u.at.place) (sym x.here)) in
      let notes : (k : ℕ) → k < NOTE_WORDS → word words (NOTES + k) ≡ get_or w.stored k (note r.told k) = λ k le.
      elim (cases_eq k j) [
        | inl e ↦ subst (λ i. word words (NOTES + i) ≡ get_or w.stored i (note r.told i)) (sym e)
            (get_or-set_same s.words (NOTES + j) n 0 there ∙ sym (snoc_new v.stored n (note r.told j)))
        | inr ne ↦ other_word s.words (NOTES + j) (NOTES + k) n (λ e. ne (omega (arith, e)))
            ∙ (h.notes k le ∙ sym (snoc_else v.stored n (note r.told k) k ne))
      ] in (
        w,
        table.keeps,
        tt,
        record {
          rounds = r.rounds;
          start = r.start;
          told = r.told;
          sound = subst Sound (sym shows) r.sound;
          all_words = length-set s.words (NOTES + j) n ∙ r.all_words;
          one_slot = r.one_slot;
          seats = seats_fit told_by same r.rounds r.start words r.told s.views id w x.there
              (live_fits told_by same r.rounds r.start words r.told id w live (record {
                hart = x.seat.hart;
                below = x.seat.below;
                of_rounds = x.seat.of_rounds;
                of_harts = x.seat.of_harts;
                of_start = x.seat.of_start;
                gate = λ y. x.seat.gate y ∙ sym same_words.gate;
                holder = λ y. record { tells = h.tells; notes = notes };
              }))
              (λ k ne. seat_out s r id k v words r.told x held ne same_words.gate refl);
          home = λ y.
              let holder : holder_of (word s.words TURN) ≡ suc id = holder_seat s r id v x held in
              let free : holder_of (word s.words TURN) ≡ 0 = ap holder_of (sym same_words.turn) ∙ y in
              absurd (omega (arith, holder, free));
          counts = counts_stay told_by same s.views id v w x.there x.here live refl refl r.counts;
        },
        refl,
      )

  -- the same, where the index of the note is known by an equation
  pub stores_at : (slots id n j : ℕ) (me : Me (Option (Slot B)) (View B)) → length me.0.stored ≡ j → me.0.live ≡ true → holds me.0.at.place ≡ true → j < NOTE_WORDS
      → Allows (Ruled told_by same) slots id me (NOTES + j) (λ m. n) (λ m. Stores (step slots (NOTES + j) n 0 none) me n)
  stores_at slots id n j me e live held lt =
      subst (λ i. Allows (Ruled told_by same) slots id me (NOTES + i) (λ m. n) (λ m. Stores (step slots (NOTES + i) n 0 none) me n)) e
      (stores_allowed slots id n me live held (subst (λ i. i < NOTE_WORDS) (sym e) lt))

  -- the store of the turn word
  pub gives_allowed : (slots id : ℕ) (v : View B) (bus : B) (last : Answer) → v.live ≡ true → is_transaction v.at.phase ≡ true → holds v.at.place ≡ true
      → HonestCall (act_of v.at.hart.0 v.at.phase) (view_told v) last (told_by bus) → IsOrigin same v.start bus → v.stored ≡ note_words (notes_in (told_by bus))
      → Allows (Ruled told_by same) slots id (v, (0, Some (record { bus = bus; last = last })) ∷ []) TURN (λ n. (told_by bus).mask)
      (λ n. Gives (step slots TURN (told_by bus).mask 0 none) (v, (0, Some (record { bus = bus; last = last })) ∷ []) (told_by bus).mask)
  gives_allowed slots id v bus last live t held honest origin stored s r wide at small =
      let after : Told = told_by bus in
      let slot : Slot B = record { bus = bus; last = last } in
      let w : View B = moved_to (after_call last v.at) v in
      let words : List ℕ = set s.words TURN after.mask in
      let x : Sits told_by same s r id v = sits told_by same s r id v at live in
      let h : HoldsTurn s.words r.told v = x.seat.holder held in
      let c : Configuration = shown r.rounds s.words s.views r.told in
      let next : Configuration = shown r.rounds words (set s.views id w) after in
      let ph : c.phase id ≡ v.at.phase = phase_shown told_by same s r id v x in
      let pl : c.place id ≡ v.at.place = place_shown told_by same s r id v x in
      let tells : c.told ≡ r.told = shown-told r.rounds s.words s.views r.told in
      let harts : v.at.harts ≡ c.told.harts = x.seat.of_harts ∙ ap (λ b. b.harts) (sym tells) in
      let here : HonestCall (act_of id (c.phase id)) c.told last after =
      subst (λ b. HonestCall (act_of id (c.phase id)) b last after) (sym (tells ∙ h.tells))
      (subst (λ q. HonestCall (act_of id q) (view_told v) last after) (sym ph)
      (subst (λ i. HonestCall (act_of i v.at.phase) (view_told v) last after) x.seat.hart honest)) in
      let leads : w.at.phase ≡ after_answer c.told.harts id (c.phase id) last =
      ap (λ n. after_answer n v.at.hart.0 v.at.phase last) harts
      ∙ (ap (λ i. after_answer c.told.harts i v.at.phase last) x.seat.hart
      ∙ ap (λ q. after_answer c.told.harts id q last) (sym ph)) in
      let ticks : Ticks id c next =
      give_ticks c next id last after (ap is_transaction ph ∙ t) (ap holds pl ∙ held) here
      (give_shown r.rounds s.words s.views r.told after id (after_answer c.told.harts id (c.phase id) last) w x.there (turn_there s.words r.all_words) leads refl) in
      let stay : after.harts ≡ r.told.harts = acts_harts (act_of id (c.phase id)) c.told after last here.does ∙ ap (λ b. b.harts) tells in
      let gate : word words GATE ≡ word s.words GATE = other_word s.words TURN GATE after.mask (λ y. omega (arith, y)) in (
        w,
        table.gives,
        tt,
        record {
          rounds = r.rounds;
          start = r.start;
          told = after;
          sound = every_tick_keeps c id next r.sound (subst (λ b. id < b.harts) (sym tells) x.seat.below) ticks;
          all_words = length-set s.words TURN after.mask ∙ r.all_words;
          one_slot = length-set s.homes 0 (some (Some slot)) ∙ r.one_slot;
          seats = seats_fit told_by same r.rounds r.start words after s.views id w x.there
              (live_fits told_by same r.rounds r.start words after id w live (record {
                hart = x.seat.hart;
                below = subst (λ n. id < n) (sym stay) x.seat.below;
                of_rounds = x.seat.of_rounds;
                of_harts = x.seat.of_harts ∙ sym stay;
                of_start = x.seat.of_start;
                gate = λ y. x.seat.gate (shut_before v.at.harts v.at.hart.0 v.at.phase last t y) ∙ sym gate;
                holder = λ y. absurd (both_ways false refl y);
              }))
              (λ k ne. seat_out s r id k v words after x held ne gate stay);
          home = λ y. record {
            bus = bus;
            last = last;
            here = set_here s.homes 0 (some (Some slot)) (omega (arith, r.one_slot));
            tells = refl;
            origin = subst (λ o. IsOrigin same o bus) x.seat.of_start origin;
            notes = λ j lt.
                other_word s.words TURN (NOTES + j) after.mask (λ z. omega (arith, z))
                ∙ (h.notes j lt ∙ (ap (λ l. get_or l j (note r.told j)) stored ∙ note_default after j (note r.told j) lt));
          };
          counts = counts_stay told_by same s.views id v w x.there x.here live refl refl r.counts;
        },
        refl,
      )

  -- the same, where the seat is known by an equation
  pub gives_at : (slots id mask : ℕ) (me : Me (Option (Slot B)) (View B)) (v : View B) (bus : B) (last : Answer) → me ≡ seat_with v ((0, Some (record { bus = bus; last = last })) ∷ []) → mask ≡ (told_by bus).mask
      → v.live ≡ true → is_transaction v.at.phase ≡ true → holds v.at.place ≡ true
      → HonestCall (act_of v.at.hart.0 v.at.phase) (view_told v) last (told_by bus) → IsOrigin same v.start bus → v.stored ≡ note_words (notes_in (told_by bus))
      → Allows (Ruled told_by same) slots id me TURN (λ n. mask) (λ n. Gives (step slots TURN mask 0 none) me mask)
  gives_at slots id mask me v bus last e f live t held honest origin stored =
      subst (λ m. Allows (Ruled told_by same) slots id m TURN (λ n. mask) (λ n. Gives (step slots TURN mask 0 none) m mask)) (sym e)
      (subst (λ k. Allows (Ruled told_by same) slots id (seat_with v ((0, Some (record { bus = bus; last = last })) ∷ [])) TURN (λ n. k) (λ n. Gives (step slots TURN k 0 none) (seat_with v ((0, Some (record { bus = bus; last = last })) ∷ [])) k)) (sym f)
      (gives_allowed slots id v bus last live t held honest origin stored))

  pub takes_at : (slots id seen to : ℕ) (me : Me (Option (Slot B)) (View B)) → me.1 ≡ [] → to ≡ turn_word (mask_of seen) (suc me.0.at.hart.0) → me.0.live ≡ true → is_transaction me.0.at.phase ≡ true → me.0.at.place ≡ place.Take seen
      → Allows (Ruled told_by same) slots id me TURN (λ n. either (n == seen) to n) (Takes told_by same (step slots TURN seen to none) me)
  takes_at slots id seen to me out e live t p =
      subst (λ k. Allows (Ruled told_by same) slots id me TURN (λ n. either (n == seen) k n) (Takes told_by same (step slots TURN seen k none) me)) (sym e)
      (subst (λ l. Allows (Ruled told_by same) slots id (seat_with me.0 l) TURN (λ n. either (n == seen) (turn_word (mask_of seen) (suc me.0.at.hart.0)) n) (Takes told_by same (step slots TURN seen (turn_word (mask_of seen) (suc me.0.at.hart.0)) none) (seat_with me.0 l))) (sym out)
      (takes_allowed slots id seen me.0 live t p))
