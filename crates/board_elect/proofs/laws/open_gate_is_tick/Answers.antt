use Rattle.board_elect.proofs.Elects.{open_gate_is_tick}
use Rattle.board_elect.proofs.laws.open_gate_is_tick.Goals as goal

pub returns : goal.returns
returns g c = open_gate_is_tick
