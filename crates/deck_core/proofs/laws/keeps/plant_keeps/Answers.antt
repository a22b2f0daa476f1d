use Rattle.deck_core.proofs.Sessions.{plant_keeps}
use Rattle.deck_core.proofs.laws.keeps.plant_keeps.Goals as goal

pub returns : goal.returns
returns c = plant_keeps
