use Rattle.plant_told.proofs.Tells.{calls_tell as law}
use Rattle.plant_told.proofs.laws.calls_tell.Goals as goal

pub returns : goal.returns
returns c = law
