use Rattle.bus_core.specs.Inner.{machine_of}
use Rattle.std.proofs.Common.{arith}
use Rattle.bus_core.proofs.Steps.{interrupt_facts}
use Rattle.bus_core.proofs.inner.Inner.make_interrupt.Goals as goal

pub take_interrupt-requires-clause-hart : goal.take_interrupt-requires-clause-hart
take_interrupt-requires-clause-hart c =
    let core = c.args.self.now in
    let there = (interrupt_facts (machine_of core) c.args.hart c.requires.legal).there in
    omega (arith, core.contexts.ok.0)

pub take_interrupt-requires-clause-takeable : goal.take_interrupt-requires-clause-takeable
take_interrupt-requires-clause-takeable c = (interrupt_facts (machine_of c.args.self.now) c.args.hart c.requires.legal).takeable

pub take_interrupt-requires-clause-below : goal.take_interrupt-requires-clause-below
take_interrupt-requires-clause-below c = (interrupt_facts (machine_of c.args.self.now) c.args.hart c.requires.legal).below
