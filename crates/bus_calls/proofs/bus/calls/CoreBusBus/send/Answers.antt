use Rattle.deck_core.specs.declared.plain.act.Act.TheVariants as act
use Rattle.deck_core.specs.declared.plain.act.Answer.TheVariants as answer
use Rattle.bus_calls.proofs.Gives.{gives_send}
use Rattle.bus_calls.proofs.Ended.{stays_ended}
use Rattle.bus_calls.proofs.bus.calls.CoreBusBus.send.Goals as goal

pub returns-clause-gives : goal.returns-clause-gives
returns-clause-gives c = gives_send c.args.to c.args.self.now c.ask.new.self c.ask.ensures.does

pub returns-clause-ended : goal.returns-clause-ended
returns-clause-ended c = stays_ended (act.Send c.args.to) c.args.self.now c.ask.new.self answer.Send c.ask.ensures.does
