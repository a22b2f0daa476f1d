use Rattle.bus_core.specs.Inner.{machine_of}
use Rattle.bus_core.proofs.Planting.{pull_step_facts}
use Rattle.bus_core.proofs.inner.Inner.make_pull_step.Goals as goal

pub pull_step-requires : goal.pull_step-requires
pull_step-requires c = pull_step_facts (machine_of c.args.self.now) c.requires.legal
