use Rattle.deck_core.proofs.Enters.{enter_keeps}
use Rattle.deck_core.proofs.laws.keeps.enter_keeps.Goals as goal

pub returns : goal.returns
returns c = enter_keeps
