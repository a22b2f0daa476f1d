use Rattle.board_elect.proofs.Elects.{lose_is_tick}
use Rattle.board_elect.proofs.laws.lose_is_tick.Goals as goal

pub returns : goal.returns
returns g c = lose_is_tick
