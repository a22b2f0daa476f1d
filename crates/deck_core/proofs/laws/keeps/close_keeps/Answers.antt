use Rattle.deck_core.proofs.Leaves.{close_keeps}
use Rattle.deck_core.proofs.laws.keeps.close_keeps.Goals as goal

pub returns : goal.returns
returns c = close_keeps
