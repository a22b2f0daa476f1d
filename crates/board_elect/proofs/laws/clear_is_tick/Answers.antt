use Rattle.board_elect.proofs.Elects.{clear_is_tick}
use Rattle.board_elect.proofs.laws.clear_is_tick.Goals as goal

pub returns : goal.returns
returns g c = clear_is_tick
