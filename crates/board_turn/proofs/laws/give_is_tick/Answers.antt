use Rattle.board_turn.proofs.StepTicks.{give_is_tick}
use Rattle.board_turn.proofs.laws.give_is_tick.Goals as goal

pub returns : goal.returns
returns g c = give_is_tick
