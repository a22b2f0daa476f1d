use Rattle.deck_core.proofs.EveryTick.{every_tick_keeps}
use Rattle.deck_core.proofs.laws.keeps.every_tick_keeps.Goals as goal

pub returns : goal.returns
returns c = every_tick_keeps
