use Rattle.deck_core.proofs.Plans.{runs_are_ticks}
use Rattle.deck_core.proofs.laws.runs.runs_are_ticks.Goals as goal

pub returns : goal.returns
returns g c = runs_are_ticks g.B.Bus.told g.B.Bus.Does
