use Rattle.board_elect.proofs.Elects.{try_is_tick}
use Rattle.board_elect.proofs.laws.try_is_tick.Goals as goal

pub returns : goal.returns
returns g c = try_is_tick
