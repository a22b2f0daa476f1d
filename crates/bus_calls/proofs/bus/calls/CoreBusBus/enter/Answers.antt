use Rattle.deck_core.specs.declared.plain.act.Act.TheVariants as act
use Rattle.deck_core.specs.declared.plain.act.Answer.TheVariants as answer
use Rattle.bus_calls.proofs.Gives.{gives_enter}
use Rattle.bus_calls.proofs.Ended.{stays_ended}
use Rattle.bus_calls.proofs.bus.calls.CoreBusBus.enter.Goals as goal

pub returns-clause-gives : goal.returns-clause-gives
returns-clause-gives c = gives_enter c.args.h c.args.late c.args.self.now c.open-answer.new.self c.open-answer.result c.requires c.open-answer.ensures.does

pub returns-clause-ended : goal.returns-clause-ended
returns-clause-ended c = stays_ended (act.Enter c.args.h c.args.late) c.args.self.now c.open-answer.new.self (answer.Enter c.open-answer.result) c.open-answer.ensures.does
