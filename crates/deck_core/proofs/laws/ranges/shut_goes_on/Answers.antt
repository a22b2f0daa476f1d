use Rattle.deck_core.proofs.Programs.{shut_goes_on}
use Rattle.deck_core.proofs.laws.ranges.shut_goes_on.Goals as goal

pub returns : goal.returns
returns c = shut_goes_on
