use Rattle.deck_core.proofs.Transactions.{peek_keeps}
use Rattle.deck_core.proofs.laws.keeps.peek_keeps.Goals as goal

pub returns : goal.returns
returns c = peek_keeps
