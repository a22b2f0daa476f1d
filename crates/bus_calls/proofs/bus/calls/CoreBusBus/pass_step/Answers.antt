use Rattle.deck_core.specs.declared.plain.act.Act.TheVariants as act
use Rattle.deck_core.specs.declared.plain.act.Answer.TheVariants as answer
use Rattle.bus_calls.proofs.Gives.{gives_pass}
use Rattle.bus_calls.proofs.Ended.{stays_ended}
use Rattle.bus_calls.proofs.bus.calls.CoreBusBus.pass_step.Goals as goal

pub returns-clause-gives : goal.returns-clause-gives
returns-clause-gives c = gives_pass c.args.h c.args.self.now c.pass-answer.new.self c.pass-answer.result c.requires c.pass-answer.ensures.does

pub returns-clause-ended : goal.returns-clause-ended
returns-clause-ended c = stays_ended (act.PassStep c.args.h) c.args.self.now c.pass-answer.new.self (answer.PassStep c.pass-answer.result) c.pass-answer.ensures.does
