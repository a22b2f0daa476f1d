use Rattle.deck_core.proofs.Sessions.{pass_step_keeps}
use Rattle.deck_core.proofs.laws.keeps.pass_step_keeps.Goals as goal

pub returns : goal.returns
returns c = pass_step_keeps
