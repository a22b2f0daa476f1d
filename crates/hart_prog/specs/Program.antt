-- Where a program stands, and what one advance does.
use Rattle.std.specs.Prelude.{◌≡◌, ℕ, ◌&&◌, Bool, true, false, Option, Some, None}
use Rattle.deck_core.specs.contract.Told.{Told}
use Rattle.deck_core.specs.ticks.Configuration.{Configuration}
use Rattle.deck_core.specs.ticks.Phases.{holds, is_finished}
use Rattle.deck_core.specs.ticks.NextPhase.{is_transaction, act_of, GoesOn}
use Rattle.deck_core.specs.ticks.Run.{TickWith, BusMoves}
use Rattle.deck_core.specs.decks.Seat.{Seat, Found, WholeTicks, is_peek, is_take, in_phase}
use Rattle.deck_core.specs.declared.plain.phase.Phase.{Phase}
use Rattle.deck_core.specs.declared.plain.phase.Phase.TheVariants as phase
use Rattle.deck_core.specs.declared.plain.phase.Place.{Place}
use Rattle.deck_core.specs.declared.plain.act.Act.{Act}
use Rattle.deck_core.specs.declared.plain.act.Answer.{Answer}
use Rattle.hart_prog.specs.Progress.{finds, finds_word, progress_of, is_done}
use Rattle.hart_prog.specs.declared.progress.At.{At}
use Rattle.hart_prog.specs.declared.progress.At.TheVariants as at
use Rattle.hart_prog.specs.declared.progress.Progress.{Progress}
use Rattle.hart_prog.specs.declared.prog.Prog.{Prog}

-- whether this is the place in a transaction, but for the word that was seen
abbrev pub is_at : At → Place → Bool
is_at at.Peek p = is_peek p
is_at at.Take p = is_take p
is_at at.Give p = holds p

-- the program stands where the seat is, with the same numbers
pub record Stands (prog : Prog) (seat : Seat) : Type 0 where
  pub hart : prog.hart.0 ≡ seat.hart
  pub harts : prog.harts ≡ seat.harts
  pub limit : prog.limit ≡ seat.limit
  pub phase : prog.phase ≡ seat.phase
  pub place : is_at prog.at seat.place ≡ true

-- the numbers of a seat stay
pub record SameNumbers (before : Seat) (after : Seat) : Type 0 where
  pub hart : after.hart ≡ before.hart
  pub harts : after.harts ≡ before.harts
  pub limit : after.limit ≡ before.limit

-- whether the tick from this seat makes a call
abbrev pub calls_now : Seat → Bool
calls_now seat = is_transaction seat.phase && holds seat.place

-- whether a hart in this phase is on its way from a call to its mark and back
abbrev pub is_slaves : Phase → Bool
is_slaves phase.Called = true
is_slaves (phase.Mark gate) = true
is_slaves (phase.Parked gate) = true
is_slaves (phase.Unmark gate) = true
is_slaves _ = false

-- whether a hart in this phase is the master, or wants to be, and makes a tick without a call
abbrev pub is_masters_word : Phase → Bool
is_masters_word phase.Wish = true
is_masters_word phase.Want = true
is_masters_word phase.Shut = true
is_masters_word (phase.Gather looks) = true
is_masters_word phase.OpenGate = true
is_masters_word phase.Drop = true
is_masters_word phase.Free = true
is_masters_word _ = false

-- a tick that made no call: the hart went to this phase, the bus stays, and this was found
pub record Moves {B : Type 0} (prog : Prog) (before after : Seat) (bus_before bus_after : B) (whole_before whole_after : Option Configuration) (next : Phase) (found : Bool) : Type 0 where
  pub seat : after ≡ in_phase next before
  pub bus : bus_after ≡ bus_before
  pub ticks : WholeTicks before.hart whole_before whole_after
  pub saw : Found found (finds_word before.phase) whole_before
  pub range : GoesOn prog.limit prog.harts prog.hart.0 next

-- one tick of hart h with this answer of the bus, where the whole configuration is told
abbrev pub WholeTicksWith : ℕ → Answer → Option Configuration → Option Configuration → Type 0
WholeTicksWith h a None after = after ≡ None
WholeTicksWith h a (Some c) after =
    (b : Told) × ((next : Configuration) × ((after ≡ Some next) × TickWith h c a b next))

-- one advance: exactly one tick of the hart; the program stands where the seat then is; the bus was called where the tick
-- makes a call, and else stays; the progress is that of what the tick found and of the call's answer, and it is Finished
-- exactly where the phase now is
pub record Advances {B : Type 0} (does : Act → B → Answer → B → Type 0) (prog : Prog) (before after : Seat) (bus_before bus_after : B) (whole_before whole_after : Option Configuration) (progress : Progress) : Type 0 where
  pub answer : Answer
  pub found : Bool
  pub stands : Stands prog after
  pub same : SameNumbers before after
  pub ticks : WholeTicksWith before.hart answer whole_before whole_after
  pub bus : BusMoves does (calls_now before) (act_of before.hart before.phase) bus_before answer bus_after
  pub saw : Found found (finds before) whole_before
  pub says : progress ≡ progress_of before found answer
  pub done : is_done progress ≡ is_finished after.phase

-- a program before its first tick
pub record IsNew (h harts limit : ℕ) (prog : Prog) : Type 0 where
  pub hart : prog.hart.0 ≡ h
  pub of_harts : prog.harts ≡ harts
  pub of_limit : prog.limit ≡ limit
  pub phase : prog.phase ≡ phase.Run
  pub place : prog.at ≡ at.Peek
