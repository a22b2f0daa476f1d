use Rattle.deck_core.specs.declared.plain.act.Act.TheVariants as act
use Rattle.deck_core.specs.declared.plain.act.Answer.TheVariants as answer
use Rattle.bus_calls.proofs.Gives.{gives_hart_step}
use Rattle.bus_calls.proofs.Ended.{stays_ended}
use Rattle.bus_calls.proofs.bus.calls.CoreBusBus.hart_step.Goals as goal

pub returns-clause-gives : goal.returns-clause-gives
returns-clause-gives c = gives_hart_step c.args.h c.args.self.now c.step-answer.new.self c.step-answer.result c.requires c.step-answer.ensures.does

pub returns-clause-ended : goal.returns-clause-ended
returns-clause-ended c = stays_ended (act.HartStep c.args.h) c.args.self.now c.step-answer.new.self (answer.HartStep c.step-answer.result) c.step-answer.ensures.does
