use Rattle.std.proofs.Common.{Some}
use Rattle.deck_core.specs.decks.Seats.{configuration_of}
use Rattle.hart_prog.proofs.Plans.{PlanRuns}
use Rattle.hart_prog.proofs.plan.run_plan.Given as goal

abbrev pub invariant-loop-h : goal.invariant-loop-h
invariant-loop-h g l = record {
  plan_runs : PlanRuns g.B.Bus.told g.B.Bus.Does l.plan l.h-index
      (Some (configuration_of l.fn.deck.limit l.fn.deck.seats (g.B.Bus.told l.fn.deck.bus))) l.fn.deck.bus
      (Some (configuration_of l.deck.limit l.deck.seats (g.B.Bus.told l.deck.bus))) l.deck.bus l.progs;
  same_origin : g.B.Bus.SameOrigin l.fn.deck.bus l.deck.bus;
}
