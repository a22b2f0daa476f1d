use Rattle.deck_core.proofs.Programs.{can_go_on_now}
use Rattle.deck_core.proofs.laws.ranges.can_go_on_now.Goals as goal

pub returns : goal.returns
returns c = can_go_on_now
