use Rattle.std.proofs.Common.{sym}
use Rattle.bus_core.specs.Inner.{machine_of}
use Rattle.bus_core.proofs.Planting.{plant_facts, enabled_text_here, enabled_free_here, not_none}
use Rattle.bus_core.proofs.inner.Inner.make_plant.Goals as goal

pub plant-requires-clause-free : goal.plant-requires-clause-free
plant-requires-clause-free c = (plant_facts (machine_of c.args.self.now) c.args.place c.requires.legal).free

pub plant-requires-clause-text : goal.plant-requires-clause-text
plant-requires-clause-text c = enabled_text_here (machine_of c.args.self.now) c.args.place c.in-Some.addr c.requires.order (sym c.in-Some.ensures)

pub plant-requires-clause-unplanted : goal.plant-requires-clause-unplanted
plant-requires-clause-unplanted c = enabled_free_here (machine_of c.args.self.now) c.args.place c.in-Some.addr c.requires.order c.requires.legal (sym c.in-Some.ensures)

pub unreachable-requires : goal.unreachable-requires
unreachable-requires c = not_none _ (plant_facts (machine_of c.args.self.now) c.args.place c.requires.legal).enabled c.in-None.ensures
