-- A hart's next step.
use Rattle.std.specs.Prelude.{◌≡◌, ℕ, suc, ◌%◌, ◌==◌, ◌&&◌, ◌||◌, ◌<◌, Bool, true, not, List, [], ◌∷◌, if◌then◌else◌}
use Rattle.mach_base.specs.Masks.{has_bit}
use Rattle.deck_core.specs.contract.Calls.{HonestCall}
use Rattle.deck_core.specs.contract.Told.{Told}
use Rattle.deck_core.specs.plain.Words.{holder_of, mask_of, turn_word}
use Rattle.deck_core.specs.ticks.Configuration.{Configuration, put}
use Rattle.deck_core.specs.ticks.NextPhase.{act_of, after_answer, after_look, after_shut, is_transaction}
use Rattle.deck_core.specs.ticks.Phases.{holds, is_in_session}
use Rattle.deck_core.specs.declared.plain.phase.Phase.{Phase}
use Rattle.deck_core.specs.declared.plain.phase.Phase.TheVariants as phase
use Rattle.deck_core.specs.declared.plain.phase.Place.{Place}
use Rattle.deck_core.specs.declared.plain.phase.Place.TheVariants as place
use Rattle.deck_core.specs.declared.plain.act.Answer.{Answer}

-- hart h goes to another phase
abbrev pub enters : ℕ → Phase → Configuration → Configuration
enters h p c = record c { phase = put c.phase h p }

-- hart h writes its own word, and goes to another phase
abbrev pub writes : ℕ → ℕ → Phase → Configuration → Configuration
writes h word p c = record c { own = put c.own h word; phase = put c.phase h p }

-- hart h goes to another place in its transaction
abbrev pub goes : ℕ → Place → Configuration → Configuration
goes h at c = record c { place = put c.place h at }

-- whether hart h finds the turn busy: it has a holder, or h is stopped and is no master in a session
abbrev pub is_busy : ℕ → Phase → ℕ → Bool
is_busy h p turn = not (holder_of turn == 0) || (has_bit (mask_of turn) h && not (is_in_session p))

-- the load of the turn word
abbrev pub peeks : ℕ → Phase → Configuration → Configuration
peeks h p c = if is_busy h p c.turn then c else goes h (place.Take c.turn) c

-- the compare and exchange of the turn word
abbrev pub takes : ℕ → ℕ → Configuration → Configuration
takes h seen c =
    if c.turn == seen then record c { turn = turn_word (mask_of c.turn) (suc h); place = put c.place h place.Give }
    else goes h place.Peek c

-- the call was made, the bus now tells this, and the turn is given back
abbrev pub gives : ℕ → Phase → Told → Configuration → Configuration
gives h p after c = record c { turn = after.mask; phase = put c.phase h p; place = put c.place h place.Peek; told = after }

-- a tick of a transaction, by the hart's place in it
abbrev pub transacts : ℕ → Phase → Place → Answer → Told → Configuration → Configuration
transacts h p place.Peek a after c = peeks h p c
transacts h p (place.Take seen) a after c = takes h seen c
transacts h p place.Give a after c = gives h (after_answer c.told.harts h p a) after c

-- hart h loads the gate's number after a call
abbrev pub answers_call : ℕ → Configuration → Configuration
answers_call h c = enters h (if c.gate % 2 == 0 then phase.Run else phase.Mark c.gate) c

-- hart h, parked at this number, loads the gate's number
abbrev pub waits_at : ℕ → ℕ → Configuration → Configuration
waits_at h at c = if c.gate == at then c else enters h (phase.Unmark at) c

-- hart h tries to become the master
abbrev pub tries_master : ℕ → Configuration → Configuration
tries_master h c = if c.master == 0 then record c { master = suc h; phase = put c.phase h phase.Own } else c

-- the gate's number grows by 1, and hart h goes to another phase
abbrev pub turns_gate : ℕ → Phase → Configuration → Configuration
turns_gate h p c = record c { gate = suc c.gate; phase = put c.phase h p }

-- the master word is freed
abbrev pub frees : ℕ → Configuration → Configuration
frees h c = record c { master = 0; phase = put c.phase h phase.Run }

-- whether the mark of hart k counts: it wants the prompt, or marked itself at the gate's present number
abbrev pub mark_counts : Configuration → ℕ → Bool
mark_counts c k = (c.own k == 1) || (c.own k == c.gate)

-- hart h's tick, in this phase. a and after are the answer of the bus and what it tells after the call; they matter in
-- a transaction alone, before the call
abbrev pub tick_in : Phase → ℕ → Answer → Told → Configuration → Configuration
tick_in phase.Called h a after c = answers_call h c
tick_in (phase.Mark gate) h a after c = writes h gate (phase.Parked gate) c
tick_in (phase.Parked gate) h a after c = waits_at h gate c
tick_in (phase.Unmark gate) h a after c = writes h 0 phase.Run c
tick_in phase.Wish h a after c = writes h 1 phase.Want c
tick_in phase.Want h a after c = tries_master h c
tick_in phase.Shut h a after c = turns_gate h (after_shut c.told.harts h) c
tick_in (phase.Gather looks) h a after c =
    enters h (after_look c.limit c.told.harts h looks (mark_counts c looks.next)) c
tick_in phase.OpenGate h a after c = turns_gate h phase.Drop c
tick_in phase.Drop h a after c = writes h 0 phase.Free c
tick_in phase.Free h a after c = frees h c
tick_in phase.Finished h a after c = c
tick_in p h a after c = transacts h p (c.place h) a after c

-- hart h's tick, in the phase that it is in: the configuration after it
unfoldable pub tick : ℕ → Answer → Told → Configuration → Configuration
tick h a after c = tick_in (c.phase h) h a after c

-- whether hart h's tick makes a call of the bus
abbrev pub makes_call : ℕ → Configuration → Bool
makes_call h c = is_transaction (c.phase h) && holds (c.place h)

-- a tick of hart h, with an honest bus
pub record Ticks (h : ℕ) (c : Configuration) (next : Configuration) : Type 0 where
  pub answer : Answer
  pub after : Told
  pub honest : makes_call h c ≡ true → HonestCall (act_of h (c.phase h)) c.told answer after
  pub ticked : next ≡ tick h answer after c

-- ticks of the harts of a list in order, each one of the bus's harts
abbrev pub TicksAll : List ℕ → Configuration → Configuration → Type 0
TicksAll [] c last = last ≡ c
TicksAll (h ∷ plan) c last = (h < c.told.harts) × ((next : Configuration) × (Ticks h c next × TicksAll plan next last))
