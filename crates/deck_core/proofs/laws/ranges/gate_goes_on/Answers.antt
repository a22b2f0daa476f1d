use Rattle.deck_core.proofs.Programs.{gate_goes_on}
use Rattle.deck_core.proofs.laws.ranges.gate_goes_on.Goals as goal

pub returns : goal.returns
returns c = gate_goes_on
