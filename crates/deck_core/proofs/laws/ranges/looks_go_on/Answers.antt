use Rattle.deck_core.proofs.Programs.{looks_go_on}
use Rattle.deck_core.proofs.laws.ranges.looks_go_on.Goals as goal

pub returns : goal.returns
returns c = looks_go_on
