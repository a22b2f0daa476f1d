use Rattle.std.proofs.Common.{Some, length}
use Rattle.deck_core.specs.decks.Seats.{configuration_of}
use Rattle.plan_text.specs.Left.{left_in}
use Rattle.hart_prog.specs.Plan.{AllBelow, AllStand, WholeRuns, hart_numbers}
use Rattle.bus_calls.specs.Bus.{told}
use Rattle.bus_calls.specs.Calls.{Does, SameOrigin}
use Rattle.kdbsim_runs.proofs.Ticks.{TicksLeft}
use Rattle.kdbsim_runs.proofs.lockstep.make_ticks.Given as goal

-- the programs stand, and what the ticks that are left make from here is what all make from the beginning
abbrev pub invariant-loop-hart : goal.invariant-loop-hart
invariant-loop-hart l = record {
  stand : AllStand (Some (configuration_of l.deck.limit l.deck.seats (told l.deck.bus))) l.progs;
  below : AllBelow (length l.progs) (left_in l.ticks);
  runs : TicksLeft (left_in l.fn.ticks) (left_in l.ticks) (Some (configuration_of l.fn.deck.limit l.fn.deck.seats (told l.fn.deck.bus))) l.fn.deck.bus (Some (configuration_of l.deck.limit l.deck.seats (told l.deck.bus))) l.deck.bus;
  origin : SameOrigin l.fn.deck.bus l.deck.bus;
}

abbrev pub decreases-loop-hart : goal.decreases-loop-hart
decreases-loop-hart l = length (left_in l.ticks)
