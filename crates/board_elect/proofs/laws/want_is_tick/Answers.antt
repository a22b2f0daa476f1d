use Rattle.board_elect.proofs.Elects.{want_is_tick}
use Rattle.board_elect.proofs.laws.want_is_tick.Goals as goal

pub returns : goal.returns
returns g c = want_is_tick
