use Rattle.deck_core.proofs.GoneTrap.{gone_trap_goes_back}
use Rattle.deck_core.proofs.laws.runs.gone_trap_goes_back.Goals as goal

pub returns : goal.returns
returns c = gone_trap_goes_back
