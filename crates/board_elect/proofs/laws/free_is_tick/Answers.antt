use Rattle.board_elect.proofs.Elects.{free_is_tick}
use Rattle.board_elect.proofs.laws.free_is_tick.Goals as goal

pub returns : goal.returns
returns g c = free_is_tick
