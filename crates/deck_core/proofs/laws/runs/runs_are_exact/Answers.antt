use Rattle.deck_core.proofs.Plans.{runs_are_exact}
use Rattle.deck_core.proofs.laws.runs.runs_are_exact.Goals as goal

pub returns : goal.returns
returns g c = runs_are_exact g.B.Bus.told g.B.Bus.Does g.B.Bus.is_lost g.B.ExactBus.state g.B.ExactBus.told_in g.B.ExactBus.called g.met.B.ExactBus.tells g.met.B.ExactBus.unlost g.met.B.ExactBus.exact
