use Rattle.board_elect.proofs.Elects.{see_gate_is_tick}
use Rattle.board_elect.proofs.laws.see_gate_is_tick.Goals as goal

pub returns : goal.returns
returns g c = see_gate_is_tick
