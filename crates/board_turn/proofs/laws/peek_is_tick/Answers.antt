use Rattle.board_turn.proofs.StepTicks.{peek_is_tick}
use Rattle.board_turn.proofs.laws.peek_is_tick.Goals as goal

pub returns : goal.returns
returns g c = peek_is_tick
