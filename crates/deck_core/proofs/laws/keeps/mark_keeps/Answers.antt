use Rattle.deck_core.proofs.Outside.{mark_keeps}
use Rattle.deck_core.proofs.laws.keeps.mark_keeps.Goals as goal

pub returns : goal.returns
returns c = mark_keeps
