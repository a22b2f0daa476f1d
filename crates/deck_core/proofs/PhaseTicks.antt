-- What the calls of the pure deck make of its seats.
use Rattle.std.proofs.Common.{◌≡◌, ℕ, suc, ◌<◌, ◌==◌, Bool, true, false, not, Some, refl, sym, ◌∙◌, ap, subst, if◌then◌else◌}
use Rattle.deck_core.specs.contract.Told.{Told}
use Rattle.deck_core.specs.ticks.Configuration.{Configuration, put}
use Rattle.deck_core.specs.contract.Calls.{HonestCall}
use Rattle.deck_core.specs.ticks.Phases.{holds}
use Rattle.deck_core.specs.ticks.NextPhase.{is_transaction, act_of, after_answer, after_gate, after_look, after_shut, after_clear}
use Rattle.deck_core.specs.ticks.Tick.{Ticks, writes, enters, turns_gate, frees, tries_master, mark_counts, peeks, takes, gives, is_busy}
use Rattle.deck_core.specs.Invariant.{Sound}
use Rattle.deck_core.specs.decks.Seat.{seat_of, in_phase, at_place, after_its_call, WholeGives, is_idle, clears, sees_gate, looks_in, is_peek}
use Rattle.deck_core.specs.decks.Seats.{configuration_of}
use Rattle.deck_core.specs.declared.decks.seats.Seats.{Seats}
use Rattle.deck_core.specs.declared.plain.phase.Phase.{Phase}
use Rattle.deck_core.specs.declared.plain.phase.Phase.TheVariants as phase
use Rattle.deck_core.specs.declared.plain.phase.Place.TheVariants as place
use Rattle.deck_core.specs.declared.plain.phase.Looks.{Looks}
use Rattle.deck_core.specs.declared.plain.act.Act.{Act}
use Rattle.deck_core.specs.declared.plain.act.Answer.{Answer}
use Rattle.deck_core.proofs.Flats.{quiet, sound_on, seat_moved, clear_ticks, gate_ticks, try_seat, look_ticks, look_seat, enters_to, looked_at, peek_ticks, peek_seen, peek_busy, take_ticks, take_seat, give_ticks, give_seat_idle, gives_to, answered, whole_gives, acts_harts}

-- what a tick of hart h without a call left: the tick, the seat in another phase, and the invariant
pub record PhaseTick (limit : ℕ) (seats : Seats) (after : Seats) (told : Told) (h : ℕ) (p : Phase) : Type 0 where
  pub ticks : Ticks h (configuration_of limit seats told) (configuration_of limit after told)
  pub seat : (idle : Bool) → seat_of h false (configuration_of limit after told) ≡ in_phase p (seat_of h idle (configuration_of limit seats told))
  pub sound : ∥ Sound (configuration_of limit seats told) ∥₁ → h < told.harts → ∥ Sound (configuration_of limit after told) ∥₁

-- what the load of the turn word left, busy or not
pub record PeekTick (limit : ℕ) (seats : Seats) (after : Seats) (told : Told) (h : ℕ) (free : Bool) : Type 0 where
  pub ticks : Ticks h (configuration_of limit seats told) (configuration_of limit after told)
  pub seen : free ≡ true → (idle : Bool) → seat_of h false (configuration_of limit after told) ≡ at_place (place.Take seats.words.turn) (seat_of h idle (configuration_of limit seats told))
  pub busy : free ≡ false → (idle : Bool) → seat_of h false (configuration_of limit after told) ≡ record (seat_of h idle (configuration_of limit seats told)) { idle = false }
  pub sound : ∥ Sound (configuration_of limit seats told) ∥₁ → h < told.harts → ∥ Sound (configuration_of limit after told) ∥₁

-- what its compare and exchange left
pub record TakeTick (limit : ℕ) (seats : Seats) (after : Seats) (told : Told) (h : ℕ) (taken : Bool) : Type 0 where
  pub ticks : Ticks h (configuration_of limit seats told) (configuration_of limit after told)
  pub seat : (idle : Bool) → seat_of h false (configuration_of limit after told) ≡ at_place (if taken then place.Give else place.Peek) (seat_of h idle (configuration_of limit seats told))
  pub sound : ∥ Sound (configuration_of limit seats told) ∥₁ → h < told.harts → ∥ Sound (configuration_of limit after told) ∥₁

-- what a call left, after which the bus tells this
pub record GiveTick (limit : ℕ) (seats : Seats) (after : Seats) (told : Told) (told_after : Told) (h : ℕ) (a : Answer) : Type 0 where
  pub harts : told_after.harts ≡ told.harts
  pub whole : WholeGives h a (Some (configuration_of limit seats told)) (Some (configuration_of limit after told_after))
  pub seat : (idle now : Bool) → now ≡ is_idle a → seat_of h now (configuration_of limit after told_after) ≡ after_its_call a (seat_of h idle (configuration_of limit seats told))
  pub sound : ∥ Sound (configuration_of limit seats told) ∥₁ → h < told.harts → ∥ Sound (configuration_of limit after told_after) ∥₁

-- that the seats moved in this way, whatever the limit and the bus are
abbrev pub SeatsMove : Seats → Seats → (Configuration → Configuration) → Type 0
SeatsMove seats after f = (limit : ℕ) (told : Told) → configuration_of limit after told ≡ f (configuration_of limit seats told)

module _ (limit : ℕ) (seats after : Seats) (told : Told) (h : ℕ) where
  abbrev old : Configuration
  old = configuration_of limit seats told

  abbrev next : Configuration
  next = configuration_of limit after told

  ticks_to : (p : Phase) → Ticks h old next → ((idle : Bool) → seat_of h false next ≡ in_phase p (seat_of h idle old)) → PhaseTick limit seats after told h p
  ticks_to p t s = record { ticks = t; seat = s; sound = λ x lt. sound_on old next h x lt t }

  moves_to : (p : Phase) (master gate : ℕ) (own : ℕ → ℕ) → Ticks h old next → next ≡ record old { master = master; gate = gate; own = own; phase = put old.phase h p } → PhaseTick limit seats after told h p
  moves_to p master gate own t e = ticks_to p t (λ idle. seat_moved old next h master gate own p idle e)

  pub wishes : old.phase h ≡ phase.Wish → SeatsMove seats after (writes h 1 phase.Want) → PhaseTick limit seats after told h phase.Want
  wishes e m = moves_to phase.Want old.master old.gate (put old.own h 1) (quiet old next h phase.Wish e refl (m limit told)) (m limit told)

  pub marks : (gate : ℕ) → old.phase h ≡ phase.Mark gate → SeatsMove seats after (writes h gate (phase.Parked gate)) → PhaseTick limit seats after told h (phase.Parked gate)
  marks gate e m = moves_to (phase.Parked gate) old.master old.gate (put old.own h gate) (quiet old next h (phase.Mark gate) e refl (m limit told)) (m limit told)

  pub opens : old.phase h ≡ phase.OpenGate → SeatsMove seats after (turns_gate h phase.Drop) → PhaseTick limit seats after told h phase.Drop
  opens e m = moves_to phase.Drop old.master (suc old.gate) old.own (quiet old next h phase.OpenGate e refl (m limit told)) (m limit told)

  pub frees_it : old.phase h ≡ phase.Free → SeatsMove seats after (frees h) → PhaseTick limit seats after told h phase.Run
  frees_it e m = moves_to phase.Run 0 old.gate old.own (quiet old next h phase.Free e refl (m limit told)) (m limit told)

  pub tries : (result : Bool) → old.phase h ≡ phase.Want → result ≡ (old.master == 0) → SeatsMove seats after (tries_master h) → PhaseTick limit seats after told h (if result then phase.Own else phase.Want)
  tries result e found m =
      ticks_to (if result then phase.Own else phase.Want) (quiet old next h phase.Want e refl (m limit told)) (λ idle. try_seat old next h result idle e found (m limit told))

  pub shuts : (harts : ℕ) (to : Phase) → old.phase h ≡ phase.Shut → harts ≡ told.harts → to ≡ after_shut harts h → SeatsMove seats after (turns_gate h to) → PhaseTick limit seats after told h (after_shut told.harts h)
  shuts harts to e same leads m =
      let moves : next ≡ turns_gate h (after_shut told.harts h) old = m limit told ∙ ap (λ q. turns_gate h q old) (leads ∙ ap (λ n. after_shut n h) same) in
      moves_to (after_shut told.harts h) old.master (suc old.gate) old.own (quiet old next h phase.Shut e refl moves) moves

  pub clears_it : (p to : Phase) → p ≡ old.phase h → clears (old.phase h) ≡ true → to ≡ after_clear p → SeatsMove seats after (writes h 0 to) → PhaseTick limit seats after told h (after_clear (old.phase h))
  clears_it p to e t leads m =
      let moves : next ≡ writes h 0 (after_clear (old.phase h)) old = m limit told ∙ ap (λ q. writes h 0 q old) (leads ∙ ap after_clear e) in
      moves_to (after_clear (old.phase h)) old.master old.gate (put old.own h 0) (clear_ticks old next h (old.phase h) refl t moves) moves

  pub sees : (p to : Phase) → p ≡ old.phase h → sees_gate (old.phase h) ≡ true → to ≡ after_gate p old.gate → SeatsMove seats after (enters h to) → PhaseTick limit seats after told h (after_gate (old.phase h) old.gate)
  sees p to e t leads m =
      let moves : next ≡ enters h (after_gate (old.phase h) old.gate) old = m limit told ∙ ap (λ q. enters h q old) (leads ∙ ap (λ q. after_gate q old.gate) e) in
      moves_to (after_gate (old.phase h) old.gate) old.master old.gate old.own (gate_ticks old next h (old.phase h) refl t moves) moves

  pub looks_at : (harts : ℕ) (looks : Looks) (k : ℕ) (result : Bool) (to : Phase) → old.phase h ≡ phase.Gather looks → k ≡ (looks_in (old.phase h)).next → result ≡ mark_counts old k → harts ≡ told.harts → to ≡ after_look limit harts h looks result → SeatsMove seats after (enters h to) → PhaseTick limit seats after told h (after_look limit told.harts h (looks_in (old.phase h)) result)
  looks_at harts looks k result to e at found same leads m =
      let moves : next ≡ enters h (after_look limit told.harts h looks result) old = enters_to old next h (after_look limit told.harts h looks result) to (m limit told) (looked_at limit told.harts harts h looks result to leads same) in
      ticks_to (after_look limit told.harts h (looks_in (old.phase h)) result) (look_ticks old next h looks k result e at found moves) (λ idle. look_seat old next h looks result idle e moves)

  pub loads : (p : Phase) (free : Bool) → p ≡ old.phase h → is_transaction (old.phase h) ≡ true → is_peek (old.place h) ≡ true → SeatsMove seats after (peeks h p) → free ≡ not (is_busy h p old.turn) → PeekTick limit seats after told h free
  loads p free e t at m f =
      let moves : next ≡ peeks h (old.phase h) old = m limit told ∙ ap (λ q. peeks h q old) e in
      let found : free ≡ not (is_busy h (old.phase h) old.turn) = f ∙ ap (λ q. not (is_busy h q old.turn)) e in
      record {
        ticks = peek_ticks old next h t at moves;
        seen = λ y idle. peek_seen old next h idle (sym found ∙ y) moves;
        busy = λ n idle. peek_busy old next h idle (sym found ∙ n) moves;
        sound = λ x lt. sound_on old next h x lt (peek_ticks old next h t at moves);
      }

  pub exchanges : (seen : ℕ) (taken : Bool) → is_transaction (old.phase h) ≡ true → old.place h ≡ place.Take seen → SeatsMove seats after (takes h seen) → taken ≡ (old.turn == seen) → TakeTick limit seats after told h taken
  exchanges seen taken t at m found = record {
    ticks = take_ticks old next h seen t at (m limit told);
    seat = λ idle. take_seat old next h seen taken idle found (m limit told);
    sound = λ x lt. sound_on old next h x lt (take_ticks old next h seen t at (m limit told));
  }

-- that the turn was given back
abbrev pub SeatsGiven : Seats → Seats → ℕ → Phase → ℕ → Type 0
SeatsGiven seats after h p mask =
    (limit : ℕ) (told now : Told) → mask ≡ now.mask → configuration_of limit after now ≡ gives h p now (configuration_of limit seats told)

module _ (limit : ℕ) (seats after : Seats) (told now : Told) (h : ℕ) (a : Answer) where
  abbrev before : Configuration
  before = configuration_of limit seats told

  abbrev left : Configuration
  left = configuration_of limit after now

  pub calls : (x : Act) (harts mask : ℕ) (p to : Phase) → x ≡ act_of h (before.phase h) → is_transaction (before.phase h) ≡ true → holds (before.place h) ≡ true → HonestCall x told a now → harts ≡ told.harts → p ≡ before.phase h → to ≡ after_answer harts h p a → mask ≡ now.mask → SeatsGiven seats after h to mask → GiveTick limit seats after told now h a
  calls x harts mask p to own t held acts same e leads stands m =
      let honest : HonestCall (act_of h (before.phase h)) told a now = subst (λ y. HonestCall y told a now) own acts in
      let stay : now.harts ≡ told.harts = acts_harts (act_of h (before.phase h)) told now a honest.does in
      let moves : left ≡ gives h (after_answer told.harts h (before.phase h) a) now before =
      gives_to before left h (after_answer told.harts h (before.phase h) a) to now (m limit told now stands)
      (answered told.harts harts h (before.phase h) p to a leads same e) in
      record {
        harts = stay;
        whole = whole_gives before left h a now t held honest moves;
        seat = λ idle is now_idle. give_seat_idle before left h (after_answer told.harts h (before.phase h) a) now is (is_idle a) idle stay moves now_idle;
        sound = λ s lt. sound_on before left h s lt (give_ticks before left h a now t held honest moves);
      }
