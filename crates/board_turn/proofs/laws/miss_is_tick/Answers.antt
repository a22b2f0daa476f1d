use Rattle.board_turn.proofs.StepTicks.{miss_is_tick}
use Rattle.board_turn.proofs.laws.miss_is_tick.Goals as goal

pub returns : goal.returns
returns g c = miss_is_tick
