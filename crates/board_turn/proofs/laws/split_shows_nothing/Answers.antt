use Rattle.board_turn.proofs.StepTicks.{split_shows_nothing}
use Rattle.board_turn.proofs.laws.split_shows_nothing.Goals as goal

pub returns : goal.returns
returns g c = split_shows_nothing
