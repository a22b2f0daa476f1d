use Rattle.std.proofs.Common.{◌≡◌, subst, sym}
use Rattle.board_turn.specs.Rule.{IsOrigin}
use Rattle.bus_calls.specs.Calls.{SameOrigin}
use Rattle.kdbsim_runs.proofs.threads.run_threads.Goals as goal

pub returns-clause-origin : goal.returns-clause-origin
returns-clause-origin g c =
    let same : SameOrigin c.in_ok-bus.bus c.in_ok-bus-2.bus = subst (λ start. IsOrigin SameOrigin start c.in_ok-bus-2.bus) c.in_ok-seated.ensures.first.of_start c.in_ok-bus-2.ensures.origin in
    same.origin _ c.in_ok-bus.ensures.origin
