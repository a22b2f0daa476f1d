use Rattle.deck_core.proofs.Flats.{give_keeps}
use Rattle.deck_core.proofs.laws.keeps.give_keeps.Goals as goal

pub returns : goal.returns
returns c = give_keeps
