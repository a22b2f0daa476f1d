use Rattle.bus_core.specs.Inner.{machine_of}
use Rattle.bus_core.proofs.Planting.{step_free_here, step_text_here, step_unplanted_here}
use Rattle.bus_core.proofs.inner.Inner.make_plant_step.Goals as goal

pub plant_step-requires-clause-free : goal.plant_step-requires-clause-free
plant_step-requires-clause-free c = step_free_here (machine_of c.args.self.now) c.args.addr c.requires.legal

pub plant_step-requires-clause-text : goal.plant_step-requires-clause-text
plant_step-requires-clause-text c = step_text_here (machine_of c.args.self.now) c.args.addr c.requires.order c.requires.legal

pub plant_step-requires-clause-unplanted : goal.plant_step-requires-clause-unplanted
plant_step-requires-clause-unplanted c = step_unplanted_here (machine_of c.args.self.now) c.args.addr c.requires.order c.requires.legal
