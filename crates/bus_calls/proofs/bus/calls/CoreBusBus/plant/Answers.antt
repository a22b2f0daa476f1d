use Rattle.deck_core.specs.declared.plain.act.Act.TheVariants as act
use Rattle.deck_core.specs.declared.plain.act.Answer.TheVariants as answer
use Rattle.bus_calls.proofs.Gives.{gives_plant}
use Rattle.bus_calls.proofs.Ended.{stays_ended}
use Rattle.bus_calls.proofs.bus.calls.CoreBusBus.plant.Goals as goal

pub returns-clause-gives : goal.returns-clause-gives
returns-clause-gives c = gives_plant c.args.i c.args.self.now c.ask.new.self c.requires c.ask.ensures.does

pub returns-clause-ended : goal.returns-clause-ended
returns-clause-ended c = stays_ended (act.Plant c.args.i) c.args.self.now c.ask.new.self answer.Plant c.ask.ensures.does
