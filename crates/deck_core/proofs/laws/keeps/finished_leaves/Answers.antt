use Rattle.deck_core.proofs.Joined.{finished_leaves}
use Rattle.deck_core.proofs.laws.keeps.finished_leaves.Goals as goal

pub returns : goal.returns
returns c = finished_leaves
