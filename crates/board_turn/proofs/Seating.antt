-- The making and the joining of seats, the board's beginning and its end.
use Rattle.std.proofs.Common.{◌≡◌, ℕ, suc, zero, ◌+◌, ◌-◌, ◌<◌, ◌≤◌, true, false, List, [], ◌∷◌, ◌++◌, length, set, refl, sym, ◌∙◌, ap, subst, inl, inr, arith, Option, Some, None}
use Rattle.std.proofs.Math.Path.{fun_ext}
use mathlib.Core.Option.{some, some-injective}
use lib.ListN.{get_elem?}
use Rattle.std.proofs.lemmas.Bool.{both_ways, cases_eq, cases_lt, eq-eqb}
use Rattle.std.proofs.lemmas.List.{length-set}
use Rattle.atomic_table.specs.Seated.{TableId}
use Rattle.atomic_table.specs.Table.{Splits, Joins, Final, Seen, opening}
use Rattle.deck_core.specs.Invariant.{Sound}
use Rattle.deck_core.specs.contract.Told.{Told, IsOpening}
use Rattle.deck_core.specs.plain.Words.{holder_of}
use Rattle.deck_core.specs.ticks.Configuration.{Configuration}
use Rattle.deck_core.specs.ticks.Phases.{holds, is_finished}
use Rattle.deck_core.specs.ticks.NextPhase.{is_transaction}
use Rattle.deck_core.specs.ticks.Tick.{enters}
use Rattle.deck_core.specs.declared.plain.act.Answer.{Answer}
use Rattle.deck_core.specs.declared.plain.note_words.TheConstants.{NOTE_WORDS}
use Rattle.deck_core.specs.declared.plain.phase.Phase.{Phase}
use Rattle.deck_core.specs.declared.plain.phase.Phase.TheVariants as phase
use Rattle.deck_core.specs.declared.plain.phase.Place.TheVariants as place
use Rattle.deck_core.proofs.Joined.{finished_leaves}
use Rattle.deck_core.proofs.Opening.{opening_is_sound}
use Rattle.board_turn.specs.declared.board.Pass.{Pass}
use Rattle.board_turn.specs.declared.view.View.{View}
use Rattle.board_turn.specs.declared.view.Slot.{Slot}
use Rattle.board_turn.specs.declared.words.TheConstants.{TURN, MASTER, GATE, NOTES, OWN, WORDS}
use Rattle.board_turn.specs.Shown.{word, note, view_of, blank_view, shown, first_view, one_more, next_view, one_fewer}
use Rattle.board_turn.specs.Rule.{Ruled, SeatFits, IsSeatOf, IsHome, IsOrigin}
use Rattle.board_turn.specs.Ready.{IsDone, start_of}
use Rattle.board_turn.proofs.Lists.{At, at_get, snoc_new, snoc_old, snoc_past, past}
use Rattle.board_turn.proofs.Shows.{part, part_stays, shown_by, shown_enters, shown_stays, same_words, shown-phase, shown-place, shown-told, shown-turn, view_same, view_other}
use Rattle.board_turn.proofs.Rules.{Sits, sits, seats_fit, live_fits, phase_shown}

module _ {B : Type 0} where
  -- the seat of a number, after one more seat
  view_old : (views : List (View B)) (u : View B) (k : ℕ) → k < length views → view_of (views ++ u ∷ []) k ≡ view_of views k
  view_old views u k lt = snoc_old views u blank_view k lt

  view_new : (views : List (View B)) (u : View B) (k : ℕ) → k ≡ length views → view_of (views ++ u ∷ []) k ≡ u
  view_new views u k e = ap (view_of (views ++ u ∷ [])) e ∙ snoc_new views u blank_view

  view_past : (views : List (View B)) (u : View B) (k : ℕ) → length views < k → view_of (views ++ u ∷ []) k ≡ blank_view
  view_past views u k lt = snoc_past views u blank_view k lt

  -- a part that a new seat has as one that isn't made
  part_snoc : {A : Type 0} (f : View B → A) (views : List (View B)) (u : View B) → f u ≡ f blank_view → part f (views ++ u ∷ []) ≡ part f views
  part_snoc f views u e = fun_ext (λ k.
      elim (cases_lt k (length views)) [
        | inl lt ↦ ap f (view_old views u k lt)
        | inr le ↦ elim (cases_eq k (length views)) [
          | inl q ↦ ap f (view_new views u k q) ∙ (e ∙ ap f (sym (past views blank_view k le)))
          | inr ne ↦ ap f (view_past views u k (omega (arith, le, ne)) ∙ sym (past views blank_view k le))
        ]
      ])

  pub split_shown : (rounds : ℕ) (words : List ℕ) (views : List (View B)) (b : Told) (h : ℕ) (v : View B) → h < length views → view_of views h ≡ v
      → shown rounds words (set views h (one_more v) ++ next_view v ∷ []) b ≡ shown rounds words views b
  unfolding shown
  split_shown rounds words views b h v lt here =
      let c : Configuration = shown rounds words views b in
      shown_by rounds words (set views h (one_more v) ++ next_view v ∷ []) b c.turn c.master c.gate c.own c.phase c.place refl refl refl (λ k. refl)
      (part_snoc (λ u. u.at.phase) (set views h (one_more v)) (next_view v) refl ∙ part_stays (λ u. u.at.phase) views h (one_more v) lt (ap (λ u. u.at.phase) (sym here)))
      (part_snoc (λ u. u.at.place) (set views h (one_more v)) (next_view v) refl ∙ part_stays (λ u. u.at.place) views h (one_more v) lt (ap (λ u. u.at.place) (sym here)))

  pub join_shown : (rounds : ℕ) (words : List ℕ) (views : List (View B)) (b : Told) (h k : ℕ) (v w : View B) → h < length views → k < length views → view_of views h ≡ v → view_of views k ≡ w → (k ≡ h → ⊥) → w.at.place ≡ place.Peek
      → shown rounds words (set (set views h (one_fewer v)) k blank_view) b ≡ enters k phase.Run (shown rounds words views b)
  join_shown rounds words views b h k v w lt lt2 here there ne p =
      let views2 : List (View B) = set views h (one_fewer v) in
      let at : place.Peek ≡ (view_of views2 k).at.place = sym (ap (λ u. u.at.place) (view_other views h (one_fewer v) k ne ∙ there) ∙ p) in
      shown_enters rounds words words views2 b k blank_view (subst (λ n. k < n) (sym (length-set views h (one_fewer v))) lt2) (same_words words) at
      ∙ ap (enters k phase.Run) (shown_stays rounds words words views b h (one_fewer v) lt (same_words words) (ap (λ u. u.at.phase) (sym here)) (ap (λ u. u.at.place) (sym here)))

  -- a spent seat fits
  blank_fits : (rounds : ℕ) (start : Option B) (words : List ℕ) (b : Told) (k : ℕ) → SeatFits rounds start words b k blank_view
  blank_fits rounds start words b k = record { live = λ t. absurd (both_ways false refl t); spent = λ f. record { phase = refl; place = refl } }

  -- a seat stays its hart's where only the numbers of seats that were made and are left change
  recounted : (rounds : ℕ) (start : Option B) (words : List ℕ) (b : Told) (k : ℕ) (v : View B) (made left : ℕ) → IsSeatOf rounds start words b k v → IsSeatOf rounds start words b k (record v { at = record v.at { made = made }; left = left })
  recounted rounds start words b k v made left x = record {
    hart = x.hart;
    below = x.below;
    of_rounds = x.of_rounds;
    of_harts = x.of_harts;
    of_start = x.of_start;
    gate = x.gate;
    holder = λ e. record { tells = (x.holder e).tells; notes = (x.holder e).notes };
  }

  -- the seats, with one more
  snoc_fits : (rounds : ℕ) (start : Option B) (words : List ℕ) (b : Told) (views : List (View B)) (u : View B) → SeatFits rounds start words b (length views) u → ((k : ℕ) → SeatFits rounds start words b k (view_of views k))
      → (k : ℕ) → SeatFits rounds start words b k (view_of (views ++ u ∷ []) k)
  snoc_fits rounds start words b views u here old k =
      elim (cases_lt k (length views)) [
        | inl lt ↦ subst (λ x. SeatFits rounds start words b k x) (sym (view_old views u k lt)) (old k)
        | inr le ↦ elim (cases_eq k (length views)) [
          | inl e ↦ subst (λ x. SeatFits rounds start words b k x) (sym (view_new views u k e)) (subst (λ j. SeatFits rounds start words b j u) (sym e) here)
          | inr ne ↦ subst (λ x. SeatFits rounds start words b k x) (sym (view_past views u k (omega (arith, le, ne)))) (blank_fits rounds start words b k)
        ]
      ]

pub length_snoc : {A : Type 0} (xs : List A) (a : A) → length (xs ++ a ∷ []) ≡ length xs + 1
length_snoc [] a = refl
length_snoc (x ∷ xs) a = ap suc (length_snoc xs a) ∙ omega arith

-- no number is the successor of one
none_above : (n : ℕ) → ((h : ℕ) → n ≡ suc h → ⊥) → n ≡ 0
none_above zero no_one = refl
none_above (suc n) no_one = absurd (no_one n refl)

-- a finished hart is in no transaction
finished_outside : (p : Phase) → is_finished p ≡ true → is_transaction p ≡ false
finished_outside phase.Finished e = refl
finished_outside _ e = absurd (both_ways false refl e)

-- the bus that a closed board has in its slot: it has the origin of the start, and an ending stands
pub record Ends {B : Type 0} (told_by : B → Told) (same : B → B → Type 0) (start : Option B) (slots : List (Option (Slot B))) : Type 0 where
  pub bus : B
  pub last : Answer
  pub here : get_elem? slots 0 ≡ some (Some (record { bus = bus; last = last }))
  pub origin : IsOrigin same start bus
  pub over : (told_by bus).over ≡ true

module _ {B : Type 0} (told_by : B → Told) (same : B → B → Type 0) where
  -- the making of a seat
  pub splits_allowed : (id : ℕ) (v : View B) → v.live ≡ true → v.at.hart.0 ≡ 0 → v.at.made < v.at.harts → v.left ≡ v.at.made → Splits (Ruled told_by same) id v (one_more v) (next_view v)
  splits_allowed id v live zero_th more all s r at =
      let x : Sits told_by same s r id v = sits told_by same s r id v at live in
      let views : List (View B) = set s.views id (one_more v) in
      let first : id ≡ 0 = sym x.seat.hart ∙ zero_th in
      let view0 : view_of s.views 0 ≡ v = ap (view_of s.views) (sym first) ∙ x.here in
      let made : v.at.made ≡ length s.views = ap (λ u. u.at.made) (sym view0) ∙ r.counts.made in
      let size : length views ≡ length s.views = length-set s.views id (one_more v) in
      let now0 : view_of (views ++ next_view v ∷ []) 0 ≡ one_more v =
      view_old views (next_view v) 0 (subst (λ n. 0 < n) (sym size) (subst (λ i. i < length s.views) first x.there))
      ∙ (ap (view_of views) (sym first) ∙ view_same s.views id (one_more v) x.there) in
      record {
        rounds = r.rounds;
        start = r.start;
        told = r.told;
        sound = subst Sound (sym (split_shown r.rounds s.words s.views r.told id v x.there x.here)) r.sound;
        all_words = r.all_words;
        one_slot = r.one_slot;
        seats = snoc_fits r.rounds r.start s.words r.told views (next_view v)
            (live_fits told_by same r.rounds r.start s.words r.told (length views) (next_view v) live (record {
              hart = made ∙ sym size;
              below = omega (arith, more, made, size, x.seat.of_harts);
              of_rounds = x.seat.of_rounds;
              of_harts = x.seat.of_harts;
              of_start = x.seat.of_start;
              gate = λ e. absurd (both_ways false refl e);
              holder = λ e. absurd (both_ways false refl e);
            }))
            (seats_fit told_by same r.rounds r.start s.words r.told s.views id (one_more v) x.there
            (live_fits told_by same r.rounds r.start s.words r.told id (one_more v) live (recounted r.rounds r.start s.words r.told id v (v.at.made + 1) (v.left + 1) x.seat))
            (λ k ne. r.seats k));
        home = r.home;
        counts = record {
          made = ap (λ u. u.at.made) now0 ∙ omega (arith, made, size, length_snoc views (next_view v));
          left = λ k le.
              let from : v.left + 1 ≤ k = subst (λ u. u.left ≤ k) now0 le in
              ap (λ u. u.live) (view_past views (next_view v) k (omega (arith, from, all, made, size)));
        };
      }

  -- the joining of the last seat that is left
  pub joins_allowed : (id other : ℕ) (v w : View B) → v.live ≡ true → w.live ≡ true → v.at.hart.0 ≡ 0 → suc w.at.hart.0 ≡ v.left → w.at.phase ≡ phase.Finished → w.at.place ≡ place.Peek
      → Joins (Ruled told_by same) id v other w (one_fewer v) blank_view
  joins_allowed id other v w live live2 zero_th last fin p s r at apart at2 =
      let x : Sits told_by same s r id v = sits told_by same s r id v at live in
      let views : List (View B) = set s.views id (one_fewer v) in
      let a : At views other w blank_view = at_get views other w blank_view at2 in
      let size : length views ≡ length s.views = length-set s.views id (one_fewer v) in
      let there : other < length s.views = subst (λ n. other < n) size a.there in
      let here : view_of s.views other ≡ w = sym (view_other s.views id (one_fewer v) other apart) ∙ a.here in
      let y : IsSeatOf r.rounds r.start s.words r.told other w = (subst (λ u. SeatFits r.rounds r.start s.words r.told other u) here (r.seats other)).live live2 in
      let first : id ≡ 0 = sym x.seat.hart ∙ zero_th in
      let view0 : view_of s.views 0 ≡ v = ap (view_of s.views) (sym first) ∙ x.here in
      let now0 : view_of (set views other blank_view) 0 ≡ one_fewer v =
      view_other views other blank_view 0 (λ e. apart (sym e ∙ sym first)) ∙ (ap (view_of views) (sym first) ∙ view_same s.views id (one_fewer v) x.there) in
      let c : Configuration = shown r.rounds s.words s.views r.told in
      let phase_is : c.phase other ≡ phase.Finished = shown-phase r.rounds s.words s.views r.told other ∙ (ap (λ u. u.at.phase) here ∙ fin) in
      let dead : (k : ℕ) → v.left - 1 ≤ k → (view_of (set views other blank_view) k).live ≡ false = λ k le.
      elim (cases_eq k other) [
        | inl e ↦ ap (λ u. u.live) (ap (view_of (set views other blank_view)) e ∙ view_same views other blank_view a.there)
        | inr ne ↦
            let high : v.left ≤ k = omega (arith, le, ne, last, y.hart) in
            let not_id : k ≡ id → ⊥ = λ e. omega (arith, e, first, high, last) in
            ap (λ u. u.live) (view_other views other blank_view k ne ∙ view_other s.views id (one_fewer v) k not_id) ∙ r.counts.left k (subst (λ u. u.left ≤ k) (sym view0) high)
      ] in
      record {
        rounds = r.rounds;
        start = r.start;
        told = r.told;
        sound = subst Sound (sym (join_shown r.rounds s.words s.views r.told id other v w x.there there x.here here apart p)) (finished_leaves c other r.sound phase_is);
        all_words = r.all_words;
        one_slot = r.one_slot;
        seats = seats_fit told_by same r.rounds r.start s.words r.told views other blank_view a.there (blank_fits r.rounds r.start s.words r.told other)
            (λ k ne. seats_fit told_by same r.rounds r.start s.words r.told s.views id (one_fewer v) x.there
            (live_fits told_by same r.rounds r.start s.words r.told id (one_fewer v) live (recounted r.rounds r.start s.words r.told id v v.at.made (v.left - 1) x.seat))
            (λ j other_ne. r.seats j) k);
        home = r.home;
        counts = record {
          made = ap (λ u. u.at.made) now0 ∙ (ap (λ u. u.at.made) (sym view0) ∙ (r.counts.made ∙ sym (length-set views other blank_view ∙ size)));
          left = λ k le. dead k (subst (λ u. u.left ≤ k) now0 le);
        };
      }

  -- a board with one seat
  one_phase : (bus : B) (harts rounds k : ℕ) → (view_of (first_view bus harts rounds ∷ []) k).at.phase ≡ phase.Run
  one_phase bus harts rounds zero = refl
  one_phase bus harts rounds (suc k) = refl

  one_place : (bus : B) (harts rounds k : ℕ) → (view_of (first_view bus harts rounds ∷ []) k).at.place ≡ place.Peek
  one_place bus harts rounds zero = refl
  one_place bus harts rounds (suc k) = refl

  one_dead : (bus : B) (harts rounds k : ℕ) → 1 ≤ k → (view_of (first_view bus harts rounds ∷ []) k).live ≡ false
  one_dead bus harts rounds zero le = absurd (omega arith)
  one_dead bus harts rounds (suc k) le = refl

  one_fits : (bus : B) (words : List ℕ) (harts rounds : ℕ) → IsOpening (told_by bus) → harts ≡ (told_by bus).harts → (k : ℕ) → SeatFits rounds (Some bus) words (told_by bus) k (view_of (first_view bus harts rounds ∷ []) k)
  one_fits bus words harts rounds o all zero = live_fits told_by same rounds (Some bus) words (told_by bus) 0 (first_view bus harts rounds) refl (record {
    hart = refl;
    below = omega (arith, o.fits.some_harts);
    of_rounds = refl;
    of_harts = all;
    of_start = refl;
    gate = λ e. absurd (both_ways false refl e);
    holder = λ e. absurd (both_ways false refl e);
  })
  one_fits bus words harts rounds o all (suc k) = blank_fits rounds (Some bus) words (told_by bus) (suc k)

  -- the board at the start
  pub starts : (bus : B) (last : Answer) (words : List ℕ) (harts rounds : ℕ) → IsOpening (told_by bus) → 0 < rounds → harts ≡ (told_by bus).harts → same bus bus → length words ≡ WORDS
      → word words TURN ≡ 0 → word words MASTER ≡ 0 → word words GATE ≡ 2 → ((k : ℕ) → k < NOTE_WORDS → word words (NOTES + k) ≡ note (told_by bus) k) → ((k : ℕ) → word words (OWN + k) ≡ 0)
      → Ruled told_by same (opening words (Some (record { bus = bus; last = last }) ∷ []) (first_view bus harts rounds))
  starts bus last words harts rounds o some_rounds all origin size turn master gate notes own =
      let b : Told = told_by bus in
      let v : View B = first_view bus harts rounds in
      let phases : part (λ (u : View B). u.at.phase) (v ∷ []) ≡ (λ k. phase.Run) = fun_ext (λ k. one_phase bus harts rounds k) in
      let places : part (λ (u : View B). u.at.place) (v ∷ []) ≡ (λ k. place.Peek) = fun_ext (λ k. one_place bus harts rounds k) in
      record {
        rounds = rounds;
        start = Some bus;
        told = b;
        sound = subst Sound (sym (shown_by rounds words (v ∷ []) b 0 0 2 (λ k. 0) (λ k. phase.Run) (λ k. place.Peek) turn master gate own phases places)) (opening_is_sound rounds b some_rounds o);
        all_words = size;
        one_slot = refl;
        seats = one_fits bus words harts rounds o all;
        home = λ e. record { bus = bus; last = last; here = refl; tells = refl; origin = origin; notes = notes };
        counts = record { made = refl; left = λ k le. one_dead bus harts rounds k le };
      }

  -- the board at the end
  pub ends : (id : ℕ) (v : View B) (words : List ℕ) (slots : List (Option (Slot B))) → v.live ≡ true → v.at.hart.0 ≡ 0 → v.left ≡ 1 → is_finished v.at.phase ≡ true → v.at.place ≡ place.Peek
      → Final (Seen (Ruled told_by same) id v) words slots → Ends told_by same v.start slots
  ends id v words slots live zero_th one fin p (s, q, ws, size, there) =
      let r : Ruled told_by same s = q.0 in
      let x : Sits told_by same s r id v = sits told_by same s r id v q.1 live in
      let first : id ≡ 0 = sym x.seat.hart ∙ zero_th in
      let view0 : view_of s.views 0 ≡ v = ap (view_of s.views) (sym first) ∙ x.here in
      let c : Configuration = shown r.rounds s.words s.views r.told in
      let out : (k : ℕ) → holds (view_of s.views k).at.place ≡ false = λ k.
      elim (cases_eq k 0) [
        | inl e ↦ ap (λ u. holds u.at.place) (ap (view_of s.views) e ∙ view0) ∙ ap holds p
        | inr ne ↦ ap holds ((r.seats k).spent (r.counts.left k (subst (λ u. u.left ≤ k) (sym view0) (omega (arith, one, ne))))).place
      ] in
      let free : holder_of (word s.words TURN) ≡ 0 = none_above (holder_of (word s.words TURN)) (λ h e.
      both_ways (holds (view_of s.views h).at.place) (out h)
      (ap holds (sym (shown-place r.rounds s.words s.views r.told h)) ∙ ((r.sound.turn h).holder ∙ eq-eqb (holder_of c.turn) (suc h) (ap holder_of (shown-turn r.rounds s.words s.views r.told) ∙ e)))) in
      let home : IsHome told_by same r.start s.words r.told s.homes = r.home free in
      let done : is_finished (c.phase id) ≡ true = ap is_finished (phase_shown told_by same s r id v x) ∙ fin in
      record {
        bus = home.bus;
        last = home.last;
        here = there 0 (Some (record { bus = home.bus; last = home.last })) home.here;
        origin = subst (λ o. IsOrigin same o home.bus) (sym x.seat.of_start) home.origin;
        over = ap (λ b. b.over) home.tells ∙ (ap (λ b. b.over) (sym (shown-told r.rounds s.words s.views r.told)) ∙ (r.sound.harts id).finished done);
      }

  -- the same, of a pass
  pub closed_ends : (table : TableId) (first : Pass B) (v : View B) (id : ℕ) (words : List ℕ) (slots : List (Option (Slot B))) → IsDone table (start_of first) 0 first → v ≡ record first.seat.me.0 { left = 1 }
      → Final (Seen (Ruled told_by same) id v) words slots → Ends told_by same (start_of first) slots
  closed_ends table first v id words slots d e f =
      let at : v.at ≡ first.stand = ap (λ u. u.at) e ∙ d.ready.view in
      subst (λ o. Ends told_by same o slots) (ap (λ u. u.start) e)
      (ends id v words slots (ap (λ u. u.live) e ∙ d.ready.live) (ap (λ a. a.hart.0) at ∙ d.hart) (ap (λ u. u.left) e) (ap (λ a. is_finished a.phase) at ∙ d.finished)
      (ap (λ a. a.place) at ∙ d.ready.outside (finished_outside first.stand.phase d.finished)) f)

  -- the slot that is taken has the bus
  slot_there : (start : Option B) (slots : List (Option (Slot B))) (x : Option (Slot B)) (e : Ends told_by same start slots) → get_elem? slots 0 ≡ some x → Some (record { bus = e.bus; last = e.last }) ≡ x
  slot_there start slots x e there = some-injective (Some (record { bus = e.bus; last = e.last })) x (sym e.here ∙ there)

  no_slot : (s : Slot B) → Some s ≡ None → ⊥
  no_slot s e = cc

  pub none_there : {start : Option B} {slots : List (Option (Slot B))} (e : Ends told_by same start slots) (x : Option (Slot B)) → get_elem? slots 0 ≡ some x → x ≡ None → ⊥
  none_there {start} {slots} e x there none_is = no_slot (record { bus = e.bus; last = e.last }) (slot_there start slots x e there ∙ none_is)

  abbrev bus_in : B → Option (Slot B) → B
  bus_in b None = b
  bus_in b (Some s) = s.bus

  pub bus_there : {start : Option B} {slots : List (Option (Slot B))} (e : Ends told_by same start slots) (s : Slot B) → get_elem? slots 0 ≡ some (Some s) → s.bus ≡ e.bus
  bus_there {start} {slots} e s there = sym (ap (bus_in e.bus) (slot_there start slots (Some s) e there))
