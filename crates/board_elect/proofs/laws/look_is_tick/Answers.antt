use Rattle.board_elect.proofs.Elects.{look_is_tick}
use Rattle.board_elect.proofs.laws.look_is_tick.Goals as goal

pub returns : goal.returns
returns g c = look_is_tick
