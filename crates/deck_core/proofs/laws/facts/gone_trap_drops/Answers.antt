use Rattle.deck_core.proofs.Conditions.{gone_trap_drops}
use Rattle.deck_core.proofs.laws.facts.gone_trap_drops.Goals as goal

pub returns : goal.returns
returns c = gone_trap_drops
