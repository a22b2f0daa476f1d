use Rattle.deck_core.proofs.Transactions.{take_keeps}
use Rattle.deck_core.proofs.laws.keeps.take_keeps.Goals as goal

pub returns : goal.returns
returns c = take_keeps
