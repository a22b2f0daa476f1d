use Rattle.std.proofs.Common.{arith, refl}
use Rattle.bus_core.specs.Inner.{machine_of}
use Rattle.bus_core.proofs.Steps.{step_facts}
use Rattle.bus_core.proofs.inner.Inner.make_step.Goals as goal

pub execute-byte-requires-clause-hart : goal.execute-byte-requires-clause-hart
execute-byte-requires-clause-hart c =
    let core = c.args.self.now in
    let there = (step_facts (machine_of core) c.args.hart c.requires.legal).there in
    omega (arith, core.contexts.ok.0)

pub execute-byte-requires-clause-right : goal.execute-byte-requires-clause-right
execute-byte-requires-clause-right c = (step_facts (machine_of c.args.self.now) c.args.hart c.requires.legal).right

pub execute-byte-requires-clause-room : goal.execute-byte-requires-clause-room
execute-byte-requires-clause-room c =
    let core = c.args.self.now in
    (step_facts (machine_of core) c.args.hart c.requires.legal).room core.limit core.read refl core.bounded core.owed_lines
