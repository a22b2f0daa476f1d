-- What a tick moves: the hart's own phase and place, and the bus where it makes a call. All else stays.
use Rattle.std.proofs.Common.{◌≡◌, ℕ, suc, ◌%◌, ◌==◌, ◌&&◌, Bool, true, false, refl, sym, subst, inl, inr, if◌then◌else◌}
use Rattle.std.proofs.lemmas.Bool.{cases_Bool, both_ways}
use Rattle.deck_core.specs.contract.Told.{Told}
use Rattle.deck_core.specs.ticks.Configuration.{Configuration, put}
use Rattle.deck_core.specs.plain.Words.{turn_word, mask_of}
use Rattle.deck_core.specs.ticks.Phases.{holds}
use Rattle.deck_core.specs.ticks.NextPhase.{is_transaction, after_answer, after_shut, after_look}
use Rattle.deck_core.specs.ticks.Tick.{tick, tick_in, transacts, makes_call, enters, goes, is_busy, mark_counts}
use Rattle.deck_core.specs.declared.plain.phase.Phase.{Phase}
use Rattle.deck_core.specs.declared.plain.phase.Phase.TheVariants as phase
use Rattle.deck_core.specs.declared.plain.phase.Place.{Place}
use Rattle.deck_core.specs.declared.plain.phase.Place.TheVariants as place
use Rattle.deck_core.specs.declared.plain.act.Answer.{Answer}
use Rattle.deck_core.proofs.Frame.{Moves, put_moves, stays}

-- the phase of hart h after its tick in this one
abbrev pub phase_next : ℕ → Answer → Configuration → Phase → Phase
phase_next h a c phase.Called = if c.gate % 2 == 0 then phase.Run else phase.Mark c.gate
phase_next h a c (phase.Mark gate) = phase.Parked gate
phase_next h a c (phase.Parked at) = if c.gate == at then phase.Parked at else phase.Unmark at
phase_next h a c (phase.Unmark gate) = phase.Run
phase_next h a c phase.Wish = phase.Want
phase_next h a c phase.Want = if c.master == 0 then phase.Own else phase.Want
phase_next h a c phase.Shut = after_shut c.told.harts h
phase_next h a c (phase.Gather looks) = after_look c.limit c.told.harts h looks (mark_counts c looks.next)
phase_next h a c phase.OpenGate = phase.Drop
phase_next h a c phase.Drop = phase.Free
phase_next h a c phase.Free = phase.Run
phase_next h a c phase.Finished = phase.Finished
phase_next h a c p = if holds (c.place h) then after_answer c.told.harts h p a else p

-- hart h's phase and place change to these, and the bus then tells this
pub record TickMoves (h : ℕ) (c next : Configuration) (p : Phase) (at : Place) (told : Told) : Type 0 where
  pub phases : Moves c.phase h p next.phase
  pub places : Moves c.place h at next.place
  pub limit : next.limit ≡ c.limit
  pub tells : next.told ≡ told

abbrev pub SomeMoves : ℕ → Configuration → Configuration → Phase → Told → Type 0
SomeMoves h c next p told = (at : Place) × TickMoves h c next p at told

-- the phase alone changes; nothing does
abbrev pub PhaseMoves : ℕ → Configuration → Configuration → Phase → Type 0
PhaseMoves h c next p = SomeMoves h c next p c.told

moves_phase : (c next : Configuration) (h : ℕ) (p : Phase) → next.phase ≡ put c.phase h p → next.place ≡ c.place → next.limit ≡ c.limit → next.told ≡ c.told → PhaseMoves h c next p
moves_phase c next h p e f l t = (
  c.place h,
  record {
    phases = subst (λ g. Moves c.phase h p g) (sym e) (put_moves c.phase h p);
    places = subst (λ g. Moves c.place h (c.place h) g) (sym f) (stays c.place h (c.place h) refl);
    limit = l;
    tells = t;
  },
)

moves_nothing : (c : Configuration) (h : ℕ) (p : Phase) → c.phase h ≡ p → PhaseMoves h c c p
moves_nothing c h p e = (c.place h, record { phases = stays c.phase h p e; places = stays c.place h (c.place h) refl; limit = refl; tells = refl })

moves_place : (c next : Configuration) (h : ℕ) (p : Phase) (at : Place) → c.phase h ≡ p → next.phase ≡ c.phase → next.place ≡ put c.place h at → next.limit ≡ c.limit → next.told ≡ c.told → PhaseMoves h c next p
moves_place c next h p at e f g l t = (
  at,
  record {
    phases = subst (λ q. Moves c.phase h p q) (sym f) (stays c.phase h p e);
    places = subst (λ q. Moves c.place h at q) (sym g) (put_moves c.place h at);
    limit = l;
    tells = t;
  },
)

transact_moves : (c : Configuration) (h : ℕ) (p : Phase) (at : Place) (a : Answer) (after : Told) → c.phase h ≡ p → SomeMoves h c (transacts h p at a after c) (if holds at then after_answer c.told.harts h p a else p) (if holds at then after else c.told)
transact_moves c h p place.Peek a after e =
    elim (cases_Bool (is_busy h p c.turn)) [
      | inl t ↦ subst (λ b. PhaseMoves h c (if b then c else goes h (place.Take c.turn) c) p) (sym t) (moves_nothing c h p e)
      | inr t ↦ subst (λ b. PhaseMoves h c (if b then c else goes h (place.Take c.turn) c) p) (sym t)
          (moves_place c (goes h (place.Take c.turn) c) h p (place.Take c.turn) e refl refl refl refl)
    ]
transact_moves c h p (place.Take seen) a after e =
    let taken : Configuration = record c { turn = turn_word (mask_of c.turn) (suc h); place = put c.place h place.Give } in
    let f : Bool → Type 0 = λ b. PhaseMoves h c (if b then taken else goes h place.Peek c) p in
    elim (cases_Bool (c.turn == seen)) [
      | inl t ↦ subst f (sym t) (moves_place c taken h p place.Give e refl refl refl refl)
      | inr t ↦ subst f (sym t) (moves_place c (goes h place.Peek c) h p place.Peek e refl refl refl refl)
    ]
transact_moves c h p place.Give a after e = (
  place.Peek,
  record {
    phases = put_moves c.phase h (after_answer c.told.harts h p a);
    places = put_moves c.place h place.Peek;
    limit = refl;
    tells = refl;
  },
)

tick_moves_in : (c : Configuration) (h : ℕ) (p : Phase) (a : Answer) (after : Told) → c.phase h ≡ p → SomeMoves h c (tick_in p h a after c) (phase_next h a c p) (if is_transaction p && holds (c.place h) then after else c.told)
tick_moves_in c h phase.Called a after e = moves_phase c _ h (phase_next h a c phase.Called) refl refl refl refl
tick_moves_in c h (phase.Mark gate) a after e = moves_phase c _ h (phase.Parked gate) refl refl refl refl
tick_moves_in c h (phase.Parked at) a after e =
    let f : Bool → Type 0 = λ b. PhaseMoves h c (if b then c else enters h (phase.Unmark at) c) (if b then phase.Parked at else phase.Unmark at) in
    elim (cases_Bool (c.gate == at)) [
      | inl t ↦ subst f (sym t) (moves_nothing c h (phase.Parked at) e)
      | inr t ↦ subst f (sym t) (moves_phase c (enters h (phase.Unmark at) c) h (phase.Unmark at) refl refl refl refl)
    ]
tick_moves_in c h (phase.Unmark gate) a after e = moves_phase c _ h phase.Run refl refl refl refl
tick_moves_in c h phase.Wish a after e = moves_phase c _ h phase.Want refl refl refl refl
tick_moves_in c h phase.Want a after e =
    let won : Configuration = record c { master = suc h; phase = put c.phase h phase.Own } in
    let f : Bool → Type 0 = λ b. PhaseMoves h c (if b then won else c) (if b then phase.Own else phase.Want) in
    elim (cases_Bool (c.master == 0)) [
      | inl t ↦ subst f (sym t) (moves_phase c won h phase.Own refl refl refl refl)
      | inr t ↦ subst f (sym t) (moves_nothing c h phase.Want e)
    ]
tick_moves_in c h phase.Shut a after e = moves_phase c _ h (after_shut c.told.harts h) refl refl refl refl
tick_moves_in c h (phase.Gather looks) a after e = moves_phase c _ h (phase_next h a c (phase.Gather looks)) refl refl refl refl
tick_moves_in c h phase.OpenGate a after e = moves_phase c _ h phase.Drop refl refl refl refl
tick_moves_in c h phase.Drop a after e = moves_phase c _ h phase.Free refl refl refl refl
tick_moves_in c h phase.Free a after e = moves_phase c _ h phase.Run refl refl refl refl
tick_moves_in c h phase.Finished a after e = moves_nothing c h phase.Finished e
tick_moves_in c h phase.Run a after e = transact_moves c h phase.Run (c.place h) a after e
tick_moves_in c h phase.Own a after e = transact_moves c h phase.Own (c.place h) a after e
tick_moves_in c h (phase.Send to) a after e = transact_moves c h (phase.Send to) (c.place h) a after e
tick_moves_in c h (phase.Enter kept reopens) a after e = transact_moves c h (phase.Enter kept reopens) (c.place h) a after e
tick_moves_in c h (phase.Pull kept left) a after e = transact_moves c h (phase.Pull kept left) (c.place h) a after e
tick_moves_in c h (phase.Lines kept) a after e = transact_moves c h (phase.Lines kept) (c.place h) a after e
tick_moves_in c h (phase.PlantStep kept at) a after e = transact_moves c h (phase.PlantStep kept at) (c.place h) a after e
tick_moves_in c h (phase.PassStep kept planted) a after e = transact_moves c h (phase.PassStep kept planted) (c.place h) a after e
tick_moves_in c h (phase.PullStep kept follows) a after e = transact_moves c h (phase.PullStep kept follows) (c.place h) a after e
tick_moves_in c h (phase.Plant kept left) a after e = transact_moves c h (phase.Plant kept left) (c.place h) a after e
tick_moves_in c h (phase.Close kept) a after e = transact_moves c h (phase.Close kept) (c.place h) a after e

pub tick_moves : (c : Configuration) (h : ℕ) (a : Answer) (after : Told) → SomeMoves h c (tick h a after c) (phase_next h a c (c.phase h)) (if makes_call h c then after else c.told)
unfolding tick
tick_moves c h a after = tick_moves_in c h (c.phase h) a after refl

-- ---- a tick that makes no call doesn't read the answer

quiet_transact : (h : ℕ) (p : Phase) (at : Place) (a a2 : Answer) (x x2 : Told) (c : Configuration) → holds at ≡ false → transacts h p at a x c ≡ transacts h p at a2 x2 c
quiet_transact h p place.Peek a a2 x x2 c e = refl
quiet_transact h p (place.Take seen) a a2 x x2 c e = refl
quiet_transact h p place.Give a a2 x x2 c e = absurd (both_ways true e refl)

quiet_tick_in : (h : ℕ) (p : Phase) (a a2 : Answer) (x x2 : Told) (c : Configuration) → (is_transaction p && holds (c.place h)) ≡ false → tick_in p h a x c ≡ tick_in p h a2 x2 c
quiet_tick_in h phase.Called a a2 x x2 c e = refl
quiet_tick_in h (phase.Mark gate) a a2 x x2 c e = refl
quiet_tick_in h (phase.Parked gate) a a2 x x2 c e = refl
quiet_tick_in h (phase.Unmark gate) a a2 x x2 c e = refl
quiet_tick_in h phase.Wish a a2 x x2 c e = refl
quiet_tick_in h phase.Want a a2 x x2 c e = refl
quiet_tick_in h phase.Shut a a2 x x2 c e = refl
quiet_tick_in h (phase.Gather looks) a a2 x x2 c e = refl
quiet_tick_in h phase.OpenGate a a2 x x2 c e = refl
quiet_tick_in h phase.Drop a a2 x x2 c e = refl
quiet_tick_in h phase.Free a a2 x x2 c e = refl
quiet_tick_in h phase.Finished a a2 x x2 c e = refl
quiet_tick_in h p a a2 x x2 c e = quiet_transact h p (c.place h) a a2 x x2 c e

pub quiet_tick : (h : ℕ) (a a2 : Answer) (x x2 : Told) (c : Configuration) → makes_call h c ≡ false → tick h a x c ≡ tick h a2 x2 c
unfolding tick
quiet_tick h a a2 x x2 c e = quiet_tick_in h (c.phase h) a a2 x x2 c e
