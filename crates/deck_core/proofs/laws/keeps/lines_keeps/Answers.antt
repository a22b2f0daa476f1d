use Rattle.deck_core.proofs.Sessions.{lines_keeps}
use Rattle.deck_core.proofs.laws.keeps.lines_keeps.Goals as goal

pub returns : goal.returns
returns c = lines_keeps
