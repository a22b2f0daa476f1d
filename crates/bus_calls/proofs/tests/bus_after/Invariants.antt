use Rattle.std.proofs.Common.{Some}
use Rattle.deck_core.specs.decks.Seats.{configuration_of}
use Rattle.hart_prog.specs.Plan.{AllStand}
use Rattle.bus_calls.proofs.tests.bus_after.Given as goal

-- each program stands where the deck has it
abbrev pub invariant-loop-hart : goal.invariant-loop-hart
invariant-loop-hart g l = AllStand (Some (configuration_of l.deck.limit l.deck.seats (g.B.Bus.told l.deck.bus))) l.progs.items
