-- The configuration that words, phases and places in arrays make, with what a bus tells.
use Rattle.std.specs.Prelude.{ℕ, slice_index_or}
use Rattle.deck_core.specs.contract.Told.{Told}
use Rattle.deck_core.specs.ticks.Configuration.{Configuration}
use Rattle.deck_core.specs.declared.plain.phase.Phase.TheVariants.{Run}
use Rattle.deck_core.specs.declared.plain.phase.Place.TheVariants.{Peek}
use Rattle.deck_core.specs.declared.decks.seats.Seats.{Seats}

-- the configuration of the seats, with this limit of rounds and with what the bus tells
abbrev pub configuration_of : ℕ → Seats → Told → Configuration
configuration_of limit seats told = record {
  limit = limit;
  turn = seats.words.turn;
  master = seats.words.master;
  gate = seats.words.gate;
  own = λ k. slice_index_or seats.words.x k 0;
  phase = λ k. slice_index_or seats.phases k Run;
  place = λ k. slice_index_or seats.places k Peek;
  told = told;
}
