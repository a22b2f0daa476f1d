-- Each election step keeps the rule of the board.
use Rattle.std.proofs.Common.{◌≡◌, ℕ, suc, ◌+◌, ◌*◌, ◌%◌, ◌^◌, ◌<◌, ◌≤◌, ◌==◌, Bool, true, false, length, set, refl, sym, ◌∙◌, ap, subst, inl, inr, arith, Option, if◌then◌else◌}
use mathlib.Core.Option.{none}
use prog.Atomic.{either}
use Rattle.std.proofs.lemmas.Bool.{both_ways, cases_Bool, eqb-true, eqb-false}
use Rattle.std.proofs.lemmas.List.{get_or-set_other, get_or-set_same, length-set}
use Rattle.mach_base.specs.declared.limits.TheConstants.{MOST_LINES}
use Rattle.atomic_table.specs.Table.{State, Me, Act, Allows, Valid, carried_after, stepped, step}
use Rattle.atomic_table.specs.Table as table
use Rattle.deck_core.specs.Invariant.{Sound}
use Rattle.deck_core.specs.contract.Told.{Told}
use Rattle.deck_core.specs.decks.Seat.{clears, looks_in, sees_gate}
use Rattle.deck_core.specs.ticks.Configuration.{Configuration}
use Rattle.deck_core.specs.ticks.NextPhase.{after_clear, after_gate}
use Rattle.deck_core.specs.ticks.Phases.{holds, is_masters, is_shut}
use Rattle.deck_core.specs.ticks.Tick.{Ticks}
use Rattle.deck_core.specs.declared.plain.note_words.TheConstants.{NOTE_WORDS}
use Rattle.deck_core.specs.declared.plain.phase.Looks.{Looks}
use Rattle.deck_core.specs.declared.plain.phase.Phase.{Phase}
use Rattle.deck_core.specs.declared.plain.phase.Phase.TheVariants as phase
use Rattle.deck_core.specs.declared.plain.phase.Place.TheVariants as place
use Rattle.deck_core.proofs.Conditions.{gate_is_bounded}
use Rattle.deck_core.proofs.EveryTick.{every_tick_keeps}
use Rattle.board_turn.specs.declared.view.Slot.{Slot}
use Rattle.board_turn.specs.declared.view.Standing.{Standing}
use Rattle.board_turn.specs.declared.view.View.{View}
use Rattle.board_turn.specs.declared.words.TheConstants.{TURN, MASTER, GATE, NOTES, OWN, WORDS}
use Rattle.board_turn.specs.Plays.{moved_to}
use Rattle.board_turn.specs.Rule.{Ruled}
use Rattle.board_turn.specs.Shown.{shown, view_of, word}
use Rattle.board_turn.proofs.Lists.{reload}
use Rattle.board_turn.proofs.Rules.{Sits, one_shut, quiet, sits}
use Rattle.board_turn.proofs.Shows.{shown-gate, shown-master, shown-told}
use Rattle.board_elect.specs.Plays.{Moves, Shuts, Tries, after_want, after_try, after_freeing, after_clearing, after_shutting, after_looking, after_opening, after_seeing, after_marking, to_phase}
use Rattle.board_elect.specs.Steps.{Stands}
use Rattle.board_elect.proofs.Elects.{clearing_ticks, free_ticks, looking_ticks, lose_ticks, mark_ticks, open_ticks, see_ticks, shut_ticks, try_ticks, want_ticks}

-- the gate isn't shut in the phase after the taking back of a word, nor after a load of its number
clear_open : (p : Phase) → clears p ≡ true → is_shut (after_clear p) ≡ false
clear_open (phase.Unmark gate) e = refl
clear_open phase.Drop e = refl
clear_open _ e = absurd (both_ways false refl e)

called_open : (even : Bool) (gate : ℕ) → is_shut (if even then phase.Run else phase.Mark gate) ≡ false
called_open true gate = refl
called_open false gate = refl

parked_open : (same : Bool) (at : ℕ) → is_shut (if same then phase.Parked at else phase.Unmark at) ≡ false
parked_open true at = refl
parked_open false at = refl

see_open : (p : Phase) (gate : ℕ) → sees_gate p ≡ true → is_shut (after_gate p gate) ≡ false
see_open phase.Called gate e = called_open (gate % 2 == 0) gate
see_open (phase.Parked at) gate e = parked_open (gate == at) at
see_open _ gate e = absurd (both_ways false refl e)

module _ {B : Type 0} (told_by : B → Told) (same : B → B → Type 0) where
  -- before the step
  pub stands : (s : State (Option (Slot B)) (View B)) (r : Ruled told_by same s) (id : ℕ) (v : View B) → Sits told_by same s r id v → v.at.place ≡ place.Peek → Stands r.rounds s.words s.views r.told id v
  stands s r id v x p = record {
    before = record { all_words = r.all_words; there = x.there; view = x.here; hart = x.seat.hart };
    few = omega (arith, x.seat.below, subst (λ b. b.harts ≤ 32) (shown-told r.rounds s.words s.views r.told) r.sound.told.few_harts);
    place = p;
    harts = x.seat.of_harts;
    limit = x.seat.of_rounds;
  }

  -- the invariant after the tick
  kept : (s : State (Option (Slot B)) (View B)) (r : Ruled told_by same s) (id : ℕ) (v : View B) (next : Configuration) → Sits told_by same s r id v → Ticks id (shown r.rounds s.words s.views r.told) next → Sound next
  kept s r id v next x t = every_tick_keeps (shown r.rounds s.words s.views r.told) id next r.sound (subst (λ b. id < b.harts) (sym (shown-told r.rounds s.words s.views r.told)) x.seat.below) t

  -- a step that writes a word which is neither the turn word nor a note
  written : (s : State (Option (Slot B)) (View B)) (r : Ruled told_by same s) (id : ℕ) (v : View B) (at : Standing) (i n : ℕ) → Sits told_by same s r id v → v.live ≡ true → v.at.place ≡ place.Peek
      → at.hart.0 ≡ v.at.hart.0 → at.limit ≡ v.at.limit → at.harts ≡ v.at.harts → at.made ≡ v.at.made → at.place ≡ v.at.place
      → (i ≡ TURN → ⊥) → ((j : ℕ) → j < NOTE_WORDS → i ≡ NOTES + j → ⊥)
      → ((k : ℕ) → (k ≡ id → ⊥) → is_shut (view_of s.views k).at.phase ≡ true → word (set s.words i n) GATE ≡ word s.words GATE)
      → (is_shut at.phase ≡ true → at.gate ≡ word (set s.words i n) GATE)
      → Ticks id (shown r.rounds s.words s.views r.told) (shown r.rounds (set s.words i n) (set s.views id (moved_to at v)) r.told)
      → Ruled told_by same (record { words = set s.words i n; homes = s.homes; views = set s.views id (moved_to at v) })
  written s r id v at i n x live p hart limit harts made stays turn notes gates gate t =
      quiet told_by same s r id v (moved_to at v) (set s.words i n) live x (record {
        size = length-set s.words i n ∙ r.all_words;
        turn = get_or-set_other s.words i TURN n 0 (λ e. turn (sym e));
        notes = λ j lt. get_or-set_other s.words i (NOTES + j) n 0 (λ e. notes j lt (sym e));
        gates = gates;
        seat = record { live = live; hart = hart; limit = limit; harts = harts; start = refl; made = made; left = refl };
        gate = gate;
        out = ap holds (stays ∙ p);
        sound = kept s r id v _ x t;
      })

  -- a step that loads a word
  loaded : (s : State (Option (Slot B)) (View B)) (r : Ruled told_by same s) (id : ℕ) (v : View B) (at : Standing) (i : ℕ) → Sits told_by same s r id v → v.live ≡ true → v.at.place ≡ place.Peek
      → at.hart.0 ≡ v.at.hart.0 → at.limit ≡ v.at.limit → at.harts ≡ v.at.harts → at.made ≡ v.at.made → at.place ≡ v.at.place → i < WORDS
      → (is_shut at.phase ≡ true → at.gate ≡ word s.words GATE)
      → Ticks id (shown r.rounds s.words s.views r.told) (shown r.rounds (set s.words i (word s.words i)) (set s.views id (moved_to at v)) r.told)
      → Ruled told_by same (record { words = set s.words i (word s.words i); homes = s.homes; views = set s.views id (moved_to at v) })
  loaded s r id v at i x live p hart limit harts made stays lt gate t =
      let back : set s.words i (word s.words i) ≡ s.words = reload s.words i 0 (omega (arith, lt, r.all_words)) in
      subst (λ ws. Ruled told_by same (record { words = ws; homes = s.homes; views = set s.views id (moved_to at v) })) (sym back)
      (quiet told_by same s r id v (moved_to at v) s.words live x (record {
        size = r.all_words;
        turn = refl;
        notes = λ j le. refl;
        gates = λ k ne e. refl;
        seat = record { live = live; hart = hart; limit = limit; harts = harts; start = refl; made = made; left = refl };
        gate = gate;
        out = ap holds (stays ∙ p);
        sound = subst (λ ws. Sound (shown r.rounds ws (set s.views id (moved_to at v)) r.told)) back (kept s r id v _ x t);
      }))

  -- a store to the hart's own word
  own_written : (s : State (Option (Slot B)) (View B)) (r : Ruled told_by same s) (id : ℕ) (v : View B) (p : Phase) (n : ℕ) → Sits told_by same s r id v → v.live ≡ true → v.at.place ≡ place.Peek → is_shut p ≡ false
      → Ticks id (shown r.rounds s.words s.views r.told) (shown r.rounds (set s.words (OWN + id) n) (set s.views id (moved_to (to_phase p v.at) v)) r.told)
      → Ruled told_by same (record { words = set s.words (OWN + v.at.hart.0) n; homes = s.homes; views = set s.views id (moved_to (to_phase p v.at) v) })
  own_written s r id v p n x live at_peek is_open t =
      subst (λ i. Ruled told_by same (record { words = set s.words (OWN + i) n; homes = s.homes; views = set s.views id (moved_to (to_phase p v.at) v) })) (sym x.seat.hart)
      (written s r id v (to_phase p v.at) (OWN + id) n x live at_peek refl refl refl refl refl (λ e. omega (arith, e)) (λ j lt e. omega (arith, e, lt))
      (λ k ne e. get_or-set_other s.words (OWN + id) GATE n 0 (λ y. omega (arith, y))) (λ e. absurd (both_ways (is_shut p) is_open e)) t)

  pub want_allowed : (slots id : ℕ) (me : Me (Option (Slot B)) (View B)) → me.0.live ≡ true → me.0.at.place ≡ place.Peek → me.0.at.phase ≡ phase.Wish
      → Allows (Ruled told_by same) slots id me (OWN + me.0.at.hart.0) (λ n. 1) (λ n. Moves after_want (step slots (OWN + me.0.at.hart.0) 1 0 none) me 1)
  want_allowed slots id me live p q s r wide at small =
      let x : Sits told_by same s r id me.0 = sits told_by same s r id me.0 at live in
      (moved_to (to_phase phase.Want me.0.at) me.0, table.keeps, tt, own_written s r id me.0 phase.Want 1 x live p refl (want_ticks r.rounds s.words s.views r.told id me.0 (stands s r id me.0 x p) q), refl)

  pub clear_allowed : (slots id : ℕ) (me : Me (Option (Slot B)) (View B)) → me.0.live ≡ true → me.0.at.place ≡ place.Peek → clears me.0.at.phase ≡ true
      → Allows (Ruled told_by same) slots id me (OWN + me.0.at.hart.0) (λ n. 0) (λ n. Moves after_clearing (step slots (OWN + me.0.at.hart.0) 0 0 none) me 0)
  clear_allowed slots id me live p q s r wide at small =
      let x : Sits told_by same s r id me.0 = sits told_by same s r id me.0 at live in
      (moved_to (to_phase (after_clear me.0.at.phase) me.0.at) me.0, table.keeps, tt, own_written s r id me.0 (after_clear me.0.at.phase) 0 x live p (clear_open me.0.at.phase q) (clearing_ticks r.rounds s.words s.views r.told id me.0 (stands s r id me.0 x p) q), refl)

  pub mark_allowed : (slots id gate : ℕ) (me : Me (Option (Slot B)) (View B)) → me.0.live ≡ true → me.0.at.place ≡ place.Peek → me.0.at.phase ≡ phase.Mark gate
      → Allows (Ruled told_by same) slots id me (OWN + me.0.at.hart.0) (λ n. gate) (λ n. Moves after_marking (step slots (OWN + me.0.at.hart.0) gate 0 none) me gate)
  mark_allowed slots id gate me live p q s r wide at small =
      let x : Sits told_by same s r id me.0 = sits told_by same s r id me.0 at live in
      (moved_to (to_phase (phase.Parked gate) me.0.at) me.0, table.keeps, tt, own_written s r id me.0 (phase.Parked gate) gate x live p refl (mark_ticks r.rounds s.words s.views r.told id me.0 (stands s r id me.0 x p) gate q), refl)

  -- a store to the master word
  master_written : (s : State (Option (Slot B)) (View B)) (r : Ruled told_by same s) (id : ℕ) (v : View B) (p : Phase) (n : ℕ) → Sits told_by same s r id v → v.live ≡ true → v.at.place ≡ place.Peek → is_shut p ≡ false
      → Ticks id (shown r.rounds s.words s.views r.told) (shown r.rounds (set s.words MASTER n) (set s.views id (moved_to (to_phase p v.at) v)) r.told)
      → Ruled told_by same (record { words = set s.words MASTER n; homes = s.homes; views = set s.views id (moved_to (to_phase p v.at) v) })
  master_written s r id v p n x live at_peek is_open t =
      written s r id v (to_phase p v.at) MASTER n x live at_peek refl refl refl refl refl (λ e. omega (arith, e)) (λ j lt e. omega (arith, e))
      (λ k ne e. get_or-set_other s.words MASTER GATE n 0 (λ y. omega (arith, y))) (λ e. absurd (both_ways (is_shut p) is_open e)) t

  pub free_allowed : (slots id : ℕ) (me : Me (Option (Slot B)) (View B)) → me.0.live ≡ true → me.0.at.place ≡ place.Peek → me.0.at.phase ≡ phase.Free
      → Allows (Ruled told_by same) slots id me MASTER (λ n. 0) (λ n. Moves after_freeing (step slots MASTER 0 0 none) me 0)
  free_allowed slots id me live p q s r wide at small =
      let x : Sits told_by same s r id me.0 = sits told_by same s r id me.0 at live in
      (moved_to (to_phase phase.Run me.0.at) me.0, table.keeps, tt, master_written s r id me.0 phase.Run 0 x live p refl (free_ticks r.rounds s.words s.views r.told id me.0 (stands s r id me.0 x p) q), refl)

  pub try_allowed : (slots id : ℕ) (me : Me (Option (Slot B)) (View B)) → me.0.live ≡ true → me.0.at.place ≡ place.Peek → me.0.at.phase ≡ phase.Want
      → Allows (Ruled told_by same) slots id me MASTER (λ n. either (n == 0) (suc me.0.at.hart.0) n) (Tries (step slots MASTER 0 (suc me.0.at.hart.0) none) me)
  try_allowed slots id me live p q s r wide at small =
      let v : View B = me.0 in
      let x : Sits told_by same s r id v = sits told_by same s r id v at live in
      let found : ℕ = word s.words MASTER in
      let y : Stands r.rounds s.words s.views r.told id v = stands s r id v x p in
      let F : Bool → Type 0 = λ b.
      Ruled told_by same (record { words = set s.words MASTER (either b (suc v.at.hart.0) found); homes = s.homes; views = set s.views id (moved_to (to_phase (if b then phase.Own else phase.Want) v.at) v) }) in
      let holds_after : F (found == 0) =
      elim (cases_Bool (found == 0)) [
        | inl t ↦ subst F (sym t)
            (subst (λ i. Ruled told_by same (record { words = set s.words MASTER (suc i); homes = s.homes; views = set s.views id (moved_to (to_phase phase.Own v.at) v) })) (sym x.seat.hart)
            (master_written s r id v phase.Own (suc id) x live p refl (try_ticks r.rounds s.words s.views r.told id v y q (eqb-true found 0 t))))
        | inr n ↦ subst F (sym n) (loaded s r id v (to_phase phase.Want v.at) MASTER x live p refl refl refl refl refl (omega arith) (λ e. absurd (both_ways false refl e))
            (lose_ticks r.rounds s.words s.views r.told id v y q (eqb-false found 0 n)))
      ] in
      let small_word : found ≤ v.at.harts =
      subst (λ n. n ≤ v.at.harts) (shown-master r.rounds s.words s.views r.told)
      (subst (λ n. (shown r.rounds s.words s.views r.told).master ≤ n) (ap (λ b. b.harts) (shown-told r.rounds s.words s.views r.told) ∙ sym x.seat.of_harts) r.sound.master) in
      (moved_to (after_try found v.at) v, table.keeps, tt, holds_after, (refl, small_word))

  -- the gate's number is small
  gate_small : (s : State (Option (Slot B)) (View B)) (r : Ruled told_by same s) → word s.words GATE ≤ 2 * MOST_LINES + 4
  gate_small s r = subst (λ n. n ≤ 2 * MOST_LINES + 4) (shown-gate r.rounds s.words s.views r.told) (gate_is_bounded (shown r.rounds s.words s.views r.told) r.sound)

  grown : (n : ℕ) → n ≤ 2 * MOST_LINES + 4 → (n + 1) % 2 ^ 64 ≡ suc n
  grown n le = omega (arith, le)

  -- the adding of 1 to the gate's number, by the master
  gate_written : (s : State (Option (Slot B)) (View B)) (r : Ruled told_by same s) (id : ℕ) (v : View B) (at : Standing) → Sits told_by same s r id v → v.live ≡ true → v.at.place ≡ place.Peek → is_masters v.at.phase ≡ true
      → at.hart.0 ≡ v.at.hart.0 → at.limit ≡ v.at.limit → at.harts ≡ v.at.harts → at.made ≡ v.at.made → at.place ≡ v.at.place
      → (is_shut at.phase ≡ true → at.gate ≡ suc (word s.words GATE))
      → Ticks id (shown r.rounds s.words s.views r.told) (shown r.rounds (set s.words GATE (suc (word s.words GATE))) (set s.views id (moved_to at v)) r.told)
      → Ruled told_by same (record { words = set s.words GATE ((word s.words GATE + 1) % 2 ^ 64); homes = s.homes; views = set s.views id (moved_to at v) })
  gate_written s r id v at x live p master hart limit harts made stays gate t =
      let found : ℕ = word s.words GATE in
      let there : GATE < length s.words = omega (arith, r.all_words) in
      subst (λ n. Ruled told_by same (record { words = set s.words GATE n; homes = s.homes; views = set s.views id (moved_to at v) })) (sym (grown found (gate_small s r)))
      (written s r id v at GATE (suc found) x live p hart limit harts made stays (λ e. omega (arith, e)) (λ j lt e. omega (arith, e))
      (λ k ne e. absurd (ne (one_shut told_by same s r id k v x master e)))
      (λ e. gate e ∙ sym (get_or-set_same s.words GATE (suc found) 0 there)) t)

  pub shut_allowed : (slots id : ℕ) (me : Me (Option (Slot B)) (View B)) → me.0.live ≡ true → me.0.at.place ≡ place.Peek → me.0.at.phase ≡ phase.Shut
      → Allows (Ruled told_by same) slots id me GATE (λ n. (n + 1) % 2 ^ 64) (Shuts (step slots GATE 1 0 none) me)
  shut_allowed slots id me live p q s r wide at small =
      let x : Sits told_by same s r id me.0 = sits told_by same s r id me.0 at live in
      let found : ℕ = word s.words GATE in
      (moved_to (after_shutting found me.0.at) me.0, table.keeps, tt, gate_written s r id me.0 (after_shutting found me.0.at) x live p (ap is_masters q) refl refl refl refl refl (λ e. refl) (shut_ticks r.rounds s.words s.views r.told id me.0 (stands s r id me.0 x p) q), (refl, gate_small s r))

  pub open_allowed : (slots id : ℕ) (me : Me (Option (Slot B)) (View B)) → me.0.live ≡ true → me.0.at.place ≡ place.Peek → me.0.at.phase ≡ phase.OpenGate
      → Allows (Ruled told_by same) slots id me GATE (λ n. (n + 1) % 2 ^ 64) (Moves after_opening (step slots GATE 1 0 none) me)
  open_allowed slots id me live p q s r wide at small =
      let x : Sits told_by same s r id me.0 = sits told_by same s r id me.0 at live in
      (moved_to (to_phase phase.Drop me.0.at) me.0, table.keeps, tt, gate_written s r id me.0 (to_phase phase.Drop me.0.at) x live p (ap is_masters q) refl refl refl refl refl (λ e. absurd (both_ways false refl e)) (open_ticks r.rounds s.words s.views r.told id me.0 (stands s r id me.0 x p) q), refl)

  pub see_allowed : (slots id : ℕ) (me : Me (Option (Slot B)) (View B)) → me.0.live ≡ true → me.0.at.place ≡ place.Peek → sees_gate me.0.at.phase ≡ true
      → Allows (Ruled told_by same) slots id me GATE (λ n. n) (Moves after_seeing (step slots GATE 0 0 none) me)
  see_allowed slots id me live p q s r wide at small =
      let x : Sits told_by same s r id me.0 = sits told_by same s r id me.0 at live in
      let found : ℕ = word s.words GATE in
      (moved_to (after_seeing found me.0.at) me.0, table.keeps, tt, loaded s r id me.0 (after_seeing found me.0.at) GATE x live p refl refl refl refl refl (omega arith) (λ e. absurd (both_ways (is_shut (after_gate me.0.at.phase found)) (see_open me.0.at.phase found q) e)) (see_ticks r.rounds s.words s.views r.told id me.0 (stands s r id me.0 x p) q), refl)

  pub look_allowed : (slots id : ℕ) (looks : Looks) (me : Me (Option (Slot B)) (View B)) → me.0.live ≡ true → me.0.at.place ≡ place.Peek → me.0.at.phase ≡ phase.Gather looks → looks.next < 32
      → Allows (Ruled told_by same) slots id me (OWN + looks.next) (λ n. n) (Moves after_looking (step slots (OWN + looks.next) 0 0 none) me)
  look_allowed slots id looks me live p q lt =
      subst (λ k. Allows (Ruled told_by same) slots id me (OWN + k) (λ n. n) (Moves after_looking (step slots (OWN + k) 0 0 none) me)) (ap (λ f. (looks_in f).next) q)
      (λ s r wide at small.
      let v : View B = me.0 in
      let x : Sits told_by same s r id v = sits told_by same s r id v at live in
      let i : ℕ = OWN + (looks_in v.at.phase).next in
      let shut : v.at.gate ≡ word s.words GATE = x.seat.gate (ap is_shut q) in
      let next_is : (looks_in v.at.phase).next ≡ looks.next = ap (λ f. (looks_in f).next) q in (
        moved_to (after_looking (word s.words i) v.at) v,
        table.keeps,
        tt,
        loaded s r id v (after_looking (word s.words i) v.at) i x live p refl refl refl refl refl (omega (arith, next_is, lt)) (λ e. shut)
            (looking_ticks r.rounds s.words s.views r.told id v (stands s r id v x p) looks q shut lt),
        refl,
      ))

  -- the same, where the word is known by an equation
  pub try_at : (slots id to : ℕ) (me : Me (Option (Slot B)) (View B)) → to ≡ suc me.0.at.hart.0 → me.0.live ≡ true → me.0.at.place ≡ place.Peek → me.0.at.phase ≡ phase.Want
      → Allows (Ruled told_by same) slots id me MASTER (λ n. either (n == 0) to n) (Tries (step slots MASTER 0 to none) me)
  try_at slots id to me e live p q =
      subst (λ k. Allows (Ruled told_by same) slots id me MASTER (λ n. either (n == 0) k n) (Tries (step slots MASTER 0 k none) me)) (sym e) (try_allowed slots id me live p q)

  pub want_at : (slots id h : ℕ) (me : Me (Option (Slot B)) (View B)) → me.0.at.hart.0 ≡ h → me.0.live ≡ true → me.0.at.place ≡ place.Peek → me.0.at.phase ≡ phase.Wish
      → Allows (Ruled told_by same) slots id me (OWN + h) (λ n. 1) (λ n. Moves after_want (step slots (OWN + h) 1 0 none) me 1)
  want_at slots id h me e live p q = subst (λ i. Allows (Ruled told_by same) slots id me (OWN + i) (λ n. 1) (λ n. Moves after_want (step slots (OWN + i) 1 0 none) me 1)) e (want_allowed slots id me live p q)

  pub clear_at : (slots id h : ℕ) (me : Me (Option (Slot B)) (View B)) → me.0.at.hart.0 ≡ h → me.0.live ≡ true → me.0.at.place ≡ place.Peek → clears me.0.at.phase ≡ true
      → Allows (Ruled told_by same) slots id me (OWN + h) (λ n. 0) (λ n. Moves after_clearing (step slots (OWN + h) 0 0 none) me 0)
  clear_at slots id h me e live p q = subst (λ i. Allows (Ruled told_by same) slots id me (OWN + i) (λ n. 0) (λ n. Moves after_clearing (step slots (OWN + i) 0 0 none) me 0)) e (clear_allowed slots id me live p q)

  pub mark_at : (slots id h gate : ℕ) (me : Me (Option (Slot B)) (View B)) → me.0.at.hart.0 ≡ h → me.0.live ≡ true → me.0.at.place ≡ place.Peek → me.0.at.phase ≡ phase.Mark gate
      → Allows (Ruled told_by same) slots id me (OWN + h) (λ n. gate) (λ n. Moves after_marking (step slots (OWN + h) gate 0 none) me gate)
  mark_at slots id h gate me e live p q = subst (λ i. Allows (Ruled told_by same) slots id me (OWN + i) (λ n. gate) (λ n. Moves after_marking (step slots (OWN + i) gate 0 none) me gate)) e (mark_allowed slots id gate me live p q)

  pub look_at : (slots id k : ℕ) (looks : Looks) (me : Me (Option (Slot B)) (View B)) → looks.next ≡ k → me.0.live ≡ true → me.0.at.place ≡ place.Peek → me.0.at.phase ≡ phase.Gather looks → looks.next < 32
      → Allows (Ruled told_by same) slots id me (OWN + k) (λ n. n) (Moves after_looking (step slots (OWN + k) 0 0 none) me)
  look_at slots id k looks me e live p q lt = subst (λ i. Allows (Ruled told_by same) slots id me (OWN + i) (λ n. n) (Moves after_looking (step slots (OWN + i) 0 0 none) me)) e (look_allowed slots id looks me live p q lt)
