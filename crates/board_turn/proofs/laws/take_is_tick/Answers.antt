use Rattle.board_turn.proofs.StepTicks.{take_is_tick}
use Rattle.board_turn.proofs.laws.take_is_tick.Goals as goal

pub returns : goal.returns
returns g c = take_is_tick
