use Rattle.board_elect.proofs.Elects.{mark_is_tick}
use Rattle.board_elect.proofs.laws.mark_is_tick.Goals as goal

pub returns : goal.returns
returns g c = mark_is_tick
