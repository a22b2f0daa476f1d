use Rattle.deck_core.proofs.Programs.{answers_go_on}
use Rattle.deck_core.proofs.laws.ranges.answers_go_on.Goals as goal

pub returns : goal.returns
returns c = answers_go_on
