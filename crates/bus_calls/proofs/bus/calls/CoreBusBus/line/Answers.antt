use Rattle.deck_core.specs.declared.plain.act.Act.TheVariants as act
use Rattle.deck_core.specs.declared.plain.act.Answer.TheVariants as answer
use Rattle.bus_calls.proofs.Gives.{gives_line}
use Rattle.bus_calls.proofs.Ended.{stays_ended}
use Rattle.bus_calls.proofs.bus.calls.CoreBusBus.line.Goals as goal

pub returns-clause-gives : goal.returns-clause-gives
returns-clause-gives c = gives_line c.args.h c.args.self.now c.read-answer.new.self c.read-answer.result c.requires c.read-answer.ensures.origin.harts c.read-answer.ensures.does

pub returns-clause-ended : goal.returns-clause-ended
returns-clause-ended c = stays_ended (act.Line c.args.h) c.args.self.now c.read-answer.new.self (answer.Line c.read-answer.result) c.read-answer.ensures.does
