use Rattle.deck_core.proofs.Sessions.{pull_keeps}
use Rattle.deck_core.proofs.laws.keeps.pull_keeps.Goals as goal

pub returns : goal.returns
returns c = pull_keeps
