use Rattle.board_turn.proofs.StepTicks.{join_shows_run}
use Rattle.board_turn.proofs.laws.join_shows_run.Goals as goal

pub returns : goal.returns
returns g c = join_shows_run
