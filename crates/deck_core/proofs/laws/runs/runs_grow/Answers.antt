use Rattle.deck_core.proofs.Plans.{runs_keep}
use Rattle.deck_core.proofs.laws.runs.runs_grow.Goals as goal

pub returns : goal.returns
returns g c = runs_keep g.B.Bus.told g.B.Bus.Does g.B.GrowingBus.GrowsTo g.met.B.GrowingBus.is_order
