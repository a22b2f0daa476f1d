use Rattle.bus_core.specs.Inner.{machine_of}
use Rattle.bus_core.proofs.Planting.{pull_facts}
use Rattle.bus_core.proofs.inner.Inner.make_pull.Goals as goal

pub pull-requires-clause-place : goal.pull-requires-clause-place
pull-requires-clause-place c = (pull_facts (machine_of c.args.self.now) c.args.place c.requires.legal).there

pub pull-requires-clause-planted : goal.pull-requires-clause-planted
pull-requires-clause-planted c = (pull_facts (machine_of c.args.self.now) c.args.place c.requires.legal).planted
