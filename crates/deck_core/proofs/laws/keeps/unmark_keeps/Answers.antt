use Rattle.deck_core.proofs.Outside.{unmark_keeps}
use Rattle.deck_core.proofs.laws.keeps.unmark_keeps.Goals as goal

pub returns : goal.returns
returns c = unmark_keeps
