use Rattle.std.proofs.Common.{Some}
use Rattle.deck_core.specs.decks.Seats.{configuration_of}
use Rattle.hart_prog.specs.Plan.{AllStand}
use Rattle.hart_prog.proofs.tests.make_ticks.Given as goal

abbrev pub invariant-loop : goal.invariant-loop
invariant-loop g l = AllStand (Some (configuration_of l.deck.limit l.deck.seats (g.B.Bus.told l.deck.bus))) l.progs
