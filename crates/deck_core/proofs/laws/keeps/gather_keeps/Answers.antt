use Rattle.deck_core.proofs.Gathers.{gather_keeps}
use Rattle.deck_core.proofs.laws.keeps.gather_keeps.Goals as goal

pub returns : goal.returns
returns c = gather_keeps
