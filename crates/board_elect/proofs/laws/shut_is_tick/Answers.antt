use Rattle.board_elect.proofs.Elects.{shut_is_tick}
use Rattle.board_elect.proofs.laws.shut_is_tick.Goals as goal

pub returns : goal.returns
returns g c = shut_is_tick
