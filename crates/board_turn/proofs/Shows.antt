-- What the board shows after a step of one seat.
use Rattle.std.proofs.Common.{◌≡◌, ℕ, suc, ◌+◌, ◌<◌, ◌==◌, List, length, set, refl, sym, ◌∙◌, ap, subst, inl, inr, Bool, arith, if◌then◌else◌}
use Rattle.std.proofs.Math.Path.{fun_ext}
use Rattle.std.proofs.lemmas.Bool.{cases_eq, cases_Bool, cond-true, cond-false, eq-eqb, ne_eqb}
use Rattle.std.proofs.lemmas.List.{get_or-set_same, get_or-set_other}
use Rattle.deck_core.specs.contract.Told.{Told}
use Rattle.deck_core.specs.plain.Words.{turn_word, mask_of}
use Rattle.deck_core.specs.ticks.Configuration.{Configuration, put}
use Rattle.deck_core.specs.ticks.Tick.{enters, goes, gives, is_busy, peeks, takes}
use Rattle.deck_core.specs.declared.plain.phase.Phase.{Phase}
use Rattle.deck_core.specs.declared.plain.phase.Place.{Place}
use Rattle.deck_core.specs.declared.plain.phase.Place.TheVariants as place
use Rattle.deck_core.proofs.Frame.{put_same, put_other}
use Rattle.deck_core.proofs.Flats.{put_again}
use Rattle.board_turn.specs.declared.view.View.{View}
use Rattle.board_turn.specs.declared.words.TheConstants.{TURN, MASTER, GATE, NOTES, OWN}
use Rattle.board_turn.specs.Shown.{word, view_of, blank_view, shown}

-- that words have the same turn, master, gate and own words
pub record SameWords (words words2 : List ℕ) : Type 0 where
  pub turn : word words2 TURN ≡ word words TURN
  pub master : word words2 MASTER ≡ word words MASTER
  pub gate : word words2 GATE ≡ word words GATE
  pub own : (k : ℕ) → word words2 (OWN + k) ≡ word words (OWN + k)

pub same_words : (words : List ℕ) → SameWords words words
same_words words = record { turn = refl; master = refl; gate = refl; own = λ k. refl }

-- the store of a note
pub note_shown : (words : List ℕ) (j n : ℕ) → j < 16 → SameWords words (set words (NOTES + j) n)
note_shown words j n lt = record {
  turn = get_or-set_other words (NOTES + j) TURN n 0 (λ x. omega (arith, x));
  master = get_or-set_other words (NOTES + j) MASTER n 0 (λ x. omega (arith, x));
  gate = get_or-set_other words (NOTES + j) GATE n 0 (λ x. omega (arith, x));
  own = λ k. get_or-set_other words (NOTES + j) (OWN + k) n 0 (λ x. omega (arith, x, lt));
}

module _ {B : Type 0} where
  -- the seat of a number, after another view at h
  pub view_same : (views : List (View B)) (h : ℕ) (w : View B) → h < length views → view_of (set views h w) h ≡ w
  view_same views h w lt = get_or-set_same views h w blank_view lt

  pub view_other : (views : List (View B)) (h : ℕ) (w : View B) (k : ℕ) → (k ≡ h → ⊥) → view_of (set views h w) k ≡ view_of views k
  view_other views h w k ne = get_or-set_other views h k w blank_view ne

  -- a part of each view
  abbrev pub part : {A : Type 0} → (View B → A) → List (View B) → ℕ → A
  part f views = λ k. f (view_of views k)

  -- a part of the views is another function at h alone
  pub part_set : {A : Type 0} (f : View B → A) (views : List (View B)) (h : ℕ) (w : View B) → h < length views → part f (set views h w) ≡ put (part f views) h (f w)
  part_set f views h w lt = fun_ext (λ k.
      elim (cases_eq k h) [
        | inl e ↦ subst (λ j. f (view_of (set views h w) j) ≡ put (part f views) h (f w) j) (sym e)
            (ap f (view_same views h w lt) ∙ sym (put_same (part f views) h (f w)))
        | inr ne ↦ ap f (view_other views h w k ne) ∙ sym (put_other (part f views) h (f w) k ne)
      ])

  -- and no other where it stays
  pub part_stays : {A : Type 0} (f : View B → A) (views : List (View B)) (h : ℕ) (w : View B) → h < length views → f w ≡ f (view_of views h) → part f (set views h w) ≡ part f views
  part_stays f views h w lt e = part_set f views h w lt ∙ put_again (part f views) h (f w) (sym e)

  -- what the board shows, part by part
  pub shown_by : (rounds : ℕ) (words : List ℕ) (views : List (View B)) (b : Told) (turn master gate : ℕ) (own : ℕ → ℕ) (phases : ℕ → Phase) (places : ℕ → Place)
      → word words TURN ≡ turn → word words MASTER ≡ master → word words GATE ≡ gate → ((k : ℕ) → word words (OWN + k) ≡ own k)
      → part (λ v. v.at.phase) views ≡ phases → part (λ v. v.at.place) views ≡ places
      → shown rounds words views b ≡ record { limit = rounds; turn = turn; master = master; gate = gate; own = own; phase = phases; place = places; told = b }
  unfolding shown
  shown_by rounds words views b turn master gate own phases places t m g o p q =
      λ i. record { limit = rounds; turn = t i; master = m i; gate = g i; own = fun_ext o i; phase = p i; place = q i; told = b }

  -- its parts
  pub shown-turn : (rounds : ℕ) (words : List ℕ) (views : List (View B)) (b : Told) → (shown rounds words views b).turn ≡ word words TURN
  unfolding shown
  shown-turn rounds words views b = refl

  pub shown-gate : (rounds : ℕ) (words : List ℕ) (views : List (View B)) (b : Told) → (shown rounds words views b).gate ≡ word words GATE
  unfolding shown
  shown-gate rounds words views b = refl

  pub shown-master : (rounds : ℕ) (words : List ℕ) (views : List (View B)) (b : Told) → (shown rounds words views b).master ≡ word words MASTER
  unfolding shown
  shown-master rounds words views b = refl

  pub shown-own : (rounds : ℕ) (words : List ℕ) (views : List (View B)) (b : Told) (k : ℕ) → (shown rounds words views b).own k ≡ word words (OWN + k)
  unfolding shown
  shown-own rounds words views b k = refl

  pub shown-phase : (rounds : ℕ) (words : List ℕ) (views : List (View B)) (b : Told) (k : ℕ) → (shown rounds words views b).phase k ≡ (view_of views k).at.phase
  unfolding shown
  shown-phase rounds words views b k = refl

  pub shown-place : (rounds : ℕ) (words : List ℕ) (views : List (View B)) (b : Told) (k : ℕ) → (shown rounds words views b).place k ≡ (view_of views k).at.place
  unfolding shown
  shown-place rounds words views b k = refl

  pub shown-told : (rounds : ℕ) (words : List ℕ) (views : List (View B)) (b : Told) → (shown rounds words views b).told ≡ b
  unfolding shown
  shown-told rounds words views b = refl

  pub shown-limit : (rounds : ℕ) (words : List ℕ) (views : List (View B)) (b : Told) → (shown rounds words views b).limit ≡ rounds
  unfolding shown
  shown-limit rounds words views b = refl

  -- what the board shows after a step of seat h: these words, and the view w there
  pub shown_step : (rounds : ℕ) (words words2 : List ℕ) (views : List (View B)) (b b2 : Told) (h : ℕ) (w : View B) (turn master gate : ℕ) (own : ℕ → ℕ) → h < length views
      → word words2 TURN ≡ turn → word words2 MASTER ≡ master → word words2 GATE ≡ gate → ((k : ℕ) → word words2 (OWN + k) ≡ own k)
      → shown rounds words2 (set views h w) b2
      ≡ record (shown rounds words views b) { turn = turn; master = master; gate = gate; own = own; phase = put (shown rounds words views b).phase h w.at.phase; place = put (shown rounds words views b).place h w.at.place; told = b2 }
  unfolding shown
  shown_step rounds words words2 views b b2 h w turn master gate own lt t m g o =
      shown_by rounds words2 (set views h w) b2 turn master gate own (put (part (λ v. v.at.phase) views) h w.at.phase) (put (part (λ v. v.at.place) views) h w.at.place) t m g o
      (part_set (λ v. v.at.phase) views h w lt) (part_set (λ v. v.at.place) views h w lt)

  -- the same where the words are as before
  shown_moves : (rounds : ℕ) (words words2 : List ℕ) (views : List (View B)) (b : Told) (h : ℕ) (w : View B) → h < length views → SameWords words words2
      → shown rounds words2 (set views h w) b ≡ record (shown rounds words views b) { phase = put (shown rounds words views b).phase h w.at.phase; place = put (shown rounds words views b).place h w.at.place }
  unfolding shown
  shown_moves rounds words words2 views b h w lt same =
      let c : Configuration = shown rounds words views b in
      shown_step rounds words words2 views b b h w c.turn c.master c.gate c.own lt same.turn same.master same.gate same.own

  -- only the place changes
  pub shown_goes : (rounds : ℕ) (words words2 : List ℕ) (views : List (View B)) (b : Told) (h : ℕ) (w : View B) → h < length views → SameWords words words2 → w.at.phase ≡ (view_of views h).at.phase
      → shown rounds words2 (set views h w) b ≡ goes h w.at.place (shown rounds words views b)
  unfolding shown
  shown_goes rounds words words2 views b h w lt same e =
      let c : Configuration = shown rounds words views b in
      shown_moves rounds words words2 views b h w lt same
      ∙ ap (λ f. record c { phase = f; place = put c.place h w.at.place }) (put_again c.phase h w.at.phase (sym e))

  -- only the phase changes
  pub shown_enters : (rounds : ℕ) (words words2 : List ℕ) (views : List (View B)) (b : Told) (h : ℕ) (w : View B) → h < length views → SameWords words words2 → w.at.place ≡ (view_of views h).at.place
      → shown rounds words2 (set views h w) b ≡ enters h w.at.phase (shown rounds words views b)
  unfolding shown
  shown_enters rounds words words2 views b h w lt same e =
      let c : Configuration = shown rounds words views b in
      shown_moves rounds words words2 views b h w lt same
      ∙ ap (λ f. record c { phase = put c.phase h w.at.phase; place = f }) (put_again c.place h w.at.place (sym e))

  -- nothing changes
  pub shown_stays : (rounds : ℕ) (words words2 : List ℕ) (views : List (View B)) (b : Told) (h : ℕ) (w : View B) → h < length views → SameWords words words2
      → w.at.phase ≡ (view_of views h).at.phase → w.at.place ≡ (view_of views h).at.place → shown rounds words2 (set views h w) b ≡ shown rounds words views b
  unfolding shown
  shown_stays rounds words words2 views b h w lt same p q =
      let c : Configuration = shown rounds words views b in
      shown_goes rounds words words2 views b h w lt same p ∙ ap (λ f. record c { place = f }) (put_again c.place h w.at.place (sym q))

  -- the load of the turn word
  pub peek_shown : (rounds : ℕ) (words : List ℕ) (views : List (View B)) (b : Told) (h : ℕ) (v w : View B) → h < length views → view_of views h ≡ v → v.at.place ≡ place.Peek
      → w.at.phase ≡ v.at.phase → w.at.place ≡ (if is_busy h v.at.phase (word words TURN) then v.at.place else place.Take (word words TURN))
      → shown rounds words (set views h w) b ≡ peeks h v.at.phase (shown rounds words views b)
  unfolding shown
  peek_shown rounds words views b h v w lt here at p q =
      let c : Configuration = shown rounds words views b in
      let f : Bool → Configuration = λ x. if x then c else goes h (place.Take c.turn) c in
      let phase_stays : w.at.phase ≡ (view_of views h).at.phase = p ∙ ap (λ u. u.at.phase) (sym here) in
      elim (cases_Bool (is_busy h v.at.phase c.turn)) [
        | inl t ↦ subst (λ x. shown rounds words (set views h w) b ≡ f x) (sym t)
            (shown_stays rounds words words views b h w lt (same_words words) phase_stays
            (q ∙ (cond-true (is_busy h v.at.phase c.turn) v.at.place (place.Take c.turn) t ∙ ap (λ u. u.at.place) (sym here))))
        | inr t ↦ subst (λ x. shown rounds words (set views h w) b ≡ f x) (sym t)
            (shown_goes rounds words words views b h w lt (same_words words) phase_stays
            ∙ ap (λ x. goes h x c) (q ∙ cond-false (is_busy h v.at.phase c.turn) v.at.place (place.Take c.turn) t))
      ]

  -- the compare and exchange of the turn word: it was the one that was seen
  pub take_shown : (rounds : ℕ) (words : List ℕ) (views : List (View B)) (b : Told) (h seen : ℕ) (v w : View B) → h < length views → TURN < length words → view_of views h ≡ v → word words TURN ≡ seen
      → w.at.phase ≡ v.at.phase → w.at.place ≡ place.Give
      → shown rounds (set words TURN (turn_word (mask_of seen) (suc h))) (set views h w) b ≡ takes h seen (shown rounds words views b)
  unfolding shown
  take_shown rounds words views b h seen v w lt some here e p q =
      let c : Configuration = shown rounds words views b in
      let turn : ℕ = turn_word (mask_of c.turn) (suc h) in
      let same : set words TURN (turn_word (mask_of seen) (suc h)) ≡ set words TURN turn = ap (λ n. set words TURN (turn_word (mask_of n) (suc h))) (sym e) in
      ap (λ ws. shown rounds ws (set views h w) b) same
      ∙ (shown_step rounds words (set words TURN turn) views b b h w turn c.master c.gate c.own lt
      (get_or-set_same words TURN turn 0 some) (get_or-set_other words TURN MASTER turn 0 (λ x. omega (arith, x))) (get_or-set_other words TURN GATE turn 0 (λ x. omega (arith, x)))
      (λ k. get_or-set_other words TURN (OWN + k) turn 0 (λ x. omega (arith, x)))
      ∙ (ap (λ f. record c { turn = turn; phase = f; place = put c.place h w.at.place }) (put_again c.phase h w.at.phase (sym (p ∙ ap (λ u. u.at.phase) (sym here))))
      ∙ (ap (λ x. record c { turn = turn; place = put c.place h x }) q
      ∙ sym (cond-true (c.turn == seen) (record c { turn = turn; place = put c.place h place.Give }) (goes h place.Peek c) (eq-eqb c.turn seen e)))))

  -- it was another one
  pub miss_shown : (rounds : ℕ) (words : List ℕ) (views : List (View B)) (b : Told) (h seen : ℕ) (v w : View B) → h < length views → view_of views h ≡ v → (word words TURN ≡ seen → ⊥)
      → w.at.phase ≡ v.at.phase → w.at.place ≡ place.Peek
      → shown rounds words (set views h w) b ≡ takes h seen (shown rounds words views b)
  unfolding shown
  miss_shown rounds words views b h seen v w lt here ne p q =
      let c : Configuration = shown rounds words views b in
      shown_goes rounds words words views b h w lt (same_words words) (p ∙ ap (λ u. u.at.phase) (sym here))
      ∙ (ap (λ x. goes h x c) q
      ∙ sym (cond-false (c.turn == seen) (record c { turn = turn_word (mask_of c.turn) (suc h); place = put c.place h place.Give }) (goes h place.Peek c) (ne_eqb c.turn seen ne)))

  -- the store of the turn word
  pub give_shown : (rounds : ℕ) (words : List ℕ) (views : List (View B)) (b after : Told) (h : ℕ) (p : Phase) (w : View B) → h < length views → TURN < length words → w.at.phase ≡ p → w.at.place ≡ place.Peek
      → shown rounds (set words TURN after.mask) (set views h w) after ≡ gives h p after (shown rounds words views b)
  unfolding shown
  give_shown rounds words views b after h p w lt some e q =
      let c : Configuration = shown rounds words views b in
      shown_step rounds words (set words TURN after.mask) views b after h w after.mask c.master c.gate c.own lt
      (get_or-set_same words TURN after.mask 0 some) (get_or-set_other words TURN MASTER after.mask 0 (λ x. omega (arith, x))) (get_or-set_other words TURN GATE after.mask 0 (λ x. omega (arith, x)))
      (λ k. get_or-set_other words TURN (OWN + k) after.mask 0 (λ x. omega (arith, x)))
      ∙ (ap (λ x. record c { turn = after.mask; phase = put c.phase h x; place = put c.place h w.at.place; told = after }) e
      ∙ ap (λ x. record c { turn = after.mask; phase = put c.phase h p; place = put c.place h x; told = after }) q)
