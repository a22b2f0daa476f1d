use Rattle.deck_core.proofs.Outside.{parked_keeps}
use Rattle.deck_core.proofs.laws.keeps.parked_keeps.Goals as goal

pub returns : goal.returns
returns c = parked_keeps
