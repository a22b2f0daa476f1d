use Rattle.plant_told.proofs.Legal.{calls_legal}
use Rattle.plant_told.proofs.laws.calls_are_legal.Goals as goal

pub returns : goal.returns
returns c = calls_legal
