-- What a deck tells: one hart's seat, and, where it can, the whole configuration.
use Rattle.std.specs.Prelude.{◌≡◌, ℕ, Bool, true, false, Option, Some, None}
use Rattle.deck_core.specs.contract.Told.{Told}
use Rattle.deck_core.specs.ticks.Configuration.{Configuration}
use Rattle.deck_core.specs.contract.Calls.{HonestCall}
use Rattle.deck_core.specs.ticks.Tick.{tick, Ticks}
use Rattle.deck_core.specs.ticks.NextPhase.{act_of, after_answer, after_look}
use Rattle.deck_core.specs.declared.plain.phase.Phase.{Phase}
use Rattle.deck_core.specs.declared.plain.phase.Phase.TheVariants as phase
use Rattle.deck_core.specs.declared.plain.phase.Place.{Place}
use Rattle.deck_core.specs.declared.plain.phase.Place.TheVariants as place
use Rattle.deck_core.specs.declared.plain.phase.Looks.{Looks}
use Rattle.deck_core.specs.declared.plain.act.Act.{Act}
use Rattle.deck_core.specs.declared.plain.act.Act.TheVariants as act
use Rattle.deck_core.specs.declared.plain.act.Answer.{Answer}
use Rattle.deck_core.specs.declared.plain.act.Answer.TheVariants as answer
use Rattle.deck_core.specs.declared.plain.act.Turned.TheVariants as turned

-- the hart's number; the number of rounds after which a gathering ends, and that of harts; the hart's phase and place;
-- whether the last tick was a call that answered Idle
pub record Seat : Type 0 where
  pub hart : ℕ
  pub limit : ℕ
  pub harts : ℕ
  pub phase : Phase
  pub place : Place
  pub idle : Bool

-- the seat of hart h in a configuration
abbrev pub seat_of : ℕ → Bool → Configuration → Seat
seat_of h idle c = record { hart = h; limit = c.limit; harts = c.told.harts; phase = c.phase h; place = c.place h; idle = idle }

-- the whole configuration, where it is told, agrees with the seat
abbrev pub Agrees : Seat → Option Configuration → Type 0
Agrees seat None = Unit {0}
Agrees seat (Some c) = seat ≡ seat_of seat.hart seat.idle c

-- what a tick found, where the whole configuration is told
abbrev pub Found : Bool → (Configuration → Bool) → Option Configuration → Type 0
Found result found None = Unit {0}
Found result found (Some c) = result ≡ found c

-- a number that a tick loaded, where the whole configuration is told
abbrev pub Loaded : ℕ → (Configuration → ℕ) → Option Configuration → Type 0
Loaded result loaded None = Unit {0}
Loaded result loaded (Some c) = result ≡ loaded c

-- a tick of hart h, where the whole configuration is told
abbrev pub WholeTicks : ℕ → Option Configuration → Option Configuration → Type 0
WholeTicks h None after = after ≡ None
WholeTicks h (Some c) after = (next : Configuration) × ((after ≡ Some next) × Ticks h c next)

-- the last tick of a transaction, with this answer of the bus, where the whole configuration is told
abbrev pub WholeGives : ℕ → Answer → Option Configuration → Option Configuration → Type 0
WholeGives h a None after = after ≡ None
WholeGives h a (Some c) after = (b : Told) × (HonestCall (act_of h (c.phase h)) c.told a b × (after ≡ Some (tick h a b c)))

-- whether a call answered Idle
abbrev pub is_idle : Answer → Bool
is_idle (answer.HartStep turned.Idle) = true
is_idle _ = false

-- whether the answer is one of this call
abbrev pub is_answer_of : Act → Answer → Bool
is_answer_of (act.HartStep h) (answer.HartStep r) = true
is_answer_of (act.Check h) (answer.Check r) = true
is_answer_of (act.Send h) answer.Send = true
is_answer_of (act.Pull i) answer.Pull = true
is_answer_of (act.PlantStep at) answer.PlantStep = true
is_answer_of act.PullStep answer.PullStep = true
is_answer_of (act.Plant i) answer.Plant = true
is_answer_of (act.Close h) answer.Close = true
is_answer_of (act.Enter h late) (answer.Enter r) = true
is_answer_of (act.Line h) (answer.Line r) = true
is_answer_of (act.PassStep h) (answer.PassStep r) = true
is_answer_of _ _ = false

-- whether the place is before the taking of the turn
abbrev pub is_take : Place → Bool
is_take (place.Take seen) = true
is_take _ = false

-- the word that was seen before the taking of the turn, 0 at another place
abbrev pub seen_at : Place → ℕ
seen_at (place.Take seen) = seen
seen_at _ = 0

-- whether the place is before the load of the turn word
abbrev pub is_peek : Place → Bool
is_peek place.Peek = true
is_peek _ = false

-- whether the phase is the one in which a hart looks
abbrev pub is_gather : Phase → Bool
is_gather (phase.Gather looks) = true
is_gather _ = false

-- the looks that a hart in Gather keeps, none in another phase
abbrev pub looks_in : Phase → Looks
looks_in (phase.Gather looks) = looks
looks_in _ = record { rounds = 0; next = 0; gathered = 0 }

-- the phases in which a hart loads the gate's number
abbrev pub sees_gate : Phase → Bool
sees_gate phase.Called = true
sees_gate (phase.Parked gate) = true
sees_gate _ = false

-- the phases in which a hart takes its own word back
abbrev pub clears : Phase → Bool
clears (phase.Unmark gate) = true
clears phase.Drop = true
clears _ = false

-- ---- the seat after a tick

-- the hart went to another phase, by a tick that was no call
abbrev pub in_phase : Phase → Seat → Seat
in_phase p seat = record seat { phase = p; idle = false }

-- the hart went to another place in its transaction
abbrev pub at_place : Place → Seat → Seat
at_place at seat = record seat { place = at; idle = false }

-- the hart looked at the next one, whose mark counts or not
abbrev pub after_its_look : Bool → Seat → Seat
after_its_look counts seat =
    in_phase (after_look seat.limit seat.harts seat.hart (looks_in seat.phase) counts) seat

-- the hart's call was answered
abbrev pub after_its_call : Answer → Seat → Seat
after_its_call a seat =
    record seat { phase = after_answer seat.harts seat.hart seat.phase a; place = place.Peek; idle = is_idle a }
