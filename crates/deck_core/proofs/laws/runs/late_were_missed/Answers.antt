use Rattle.deck_core.proofs.Late.{late_were_missed}
use Rattle.deck_core.proofs.laws.runs.late_were_missed.Goals as goal

pub returns : goal.returns
returns c = late_were_missed
