use Rattle.board_turn.proofs.StepTicks.{store_shows_nothing}
use Rattle.board_turn.proofs.laws.store_shows_nothing.Goals as goal

pub returns : goal.returns
returns g c = store_shows_nothing
