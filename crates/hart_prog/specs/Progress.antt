-- What a tick finds, and the progress that it makes.
use Rattle.std.specs.Prelude.{◌==◌, Bool, true, false, not, if◌then◌else◌}
use Rattle.deck_core.specs.ticks.Configuration.{Configuration}
use Rattle.deck_core.specs.ticks.NextPhase.{is_transaction}
use Rattle.deck_core.specs.ticks.Tick.{is_busy, mark_counts}
use Rattle.deck_core.specs.decks.Seat.{Seat}
use Rattle.deck_core.specs.declared.plain.phase.Phase.{Phase}
use Rattle.deck_core.specs.declared.plain.phase.Phase.TheVariants as phase
use Rattle.deck_core.specs.declared.plain.phase.Place.{Place}
use Rattle.deck_core.specs.declared.plain.phase.Place.TheVariants as place
use Rattle.deck_core.specs.declared.plain.act.Answer.{Answer}
use Rattle.deck_core.specs.declared.plain.act.Answer.TheVariants as answer
use Rattle.deck_core.specs.declared.plain.act.Turned.TheVariants as turned
use Rattle.hart_prog.specs.declared.progress.Progress.{Progress}
use Rattle.hart_prog.specs.declared.progress.Progress.TheVariants as progress

-- whether the hart can go on with what its tick finds in a transaction: the turn isn't busy; it is still the one seen
abbrev pub finds_turn : Seat → Place → Configuration → Bool
finds_turn seat place.Peek c = not (is_busy seat.hart seat.phase c.turn)
finds_turn seat (place.Take seen) c = c.turn == seen
finds_turn seat place.Give c = true

-- and in another phase: there is no master; the gate has another number; the mark of the next hart counts
abbrev pub finds_word : Phase → Configuration → Bool
finds_word phase.Want c = c.master == 0
finds_word (phase.Parked at) c = not (c.gate == at)
finds_word (phase.Gather looks) c = mark_counts c looks.next
finds_word _ c = true

-- whether the hart can go on with what its tick finds
abbrev pub finds : Seat → Configuration → Bool
finds seat c = if is_transaction seat.phase then finds_turn seat seat.place c else finds_word seat.phase c

-- the progress of a tick that made a call: the hart is finished after Off, and waits after Idle
abbrev pub answered : Answer → Progress
answered (answer.HartStep turned.Off) = progress.Finished
answered (answer.HartStep turned.Idle) = progress.Waits
answered _ = progress.Again

-- the progress of a hart that goes on where it has found what it needs, and else waits
abbrev pub found_or_waits : Bool → Progress
found_or_waits found = if found then progress.Again else progress.Waits

-- in a transaction, by the place: a load that finds the turn busy waits; a lost exchange goes on, to the load again
abbrev pub turn_progress : Place → Bool → Answer → Progress
turn_progress place.Peek found a = found_or_waits found
turn_progress (place.Take seen) found a = progress.Again
turn_progress place.Give found a = answered a

-- in another phase: a hart waits where it finds a master, the gate shut at its number, or no mark that counts
abbrev pub word_progress : Phase → Bool → Progress
word_progress phase.Want found = found_or_waits found
word_progress (phase.Parked at) found = found_or_waits found
word_progress (phase.Gather looks) found = found_or_waits found
word_progress phase.Finished found = progress.Finished
word_progress _ found = progress.Again

-- the progress of a tick, by where the hart stood, what the tick found, and the answer of its call
abbrev pub progress_of : Seat → Bool → Answer → Progress
progress_of seat found a =
    if is_transaction seat.phase then turn_progress seat.place found a else word_progress seat.phase found

-- whether the hart is finished
abbrev pub is_done : Progress → Bool
is_done progress.Finished = true
is_done _ = false
