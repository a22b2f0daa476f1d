use Rattle.deck_core.proofs.Elects.{send_keeps}
use Rattle.deck_core.proofs.laws.keeps.send_keeps.Goals as goal

pub returns : goal.returns
returns c = send_keeps
