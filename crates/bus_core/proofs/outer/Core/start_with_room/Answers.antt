use Rattle.std.proofs.Common.{false}
use Rattle.bus_core.specs.Inner.{machine_of as inner_machine}
use Rattle.bus_core.specs.Origin.{Origin}
use Rattle.bus_core.proofs.Lists.{starts_from}
use Rattle.bus_core.proofs.outer.Core.start_with_room.Goals as goal

pub invariant_of-result : goal.invariant_of-result
invariant_of-result c =
    let o : Origin = record { image = c.args.image.now; symbols = c.args.names; lines = c.args.script; harts = c.args.harts; limit = c.args.limit } in
    record { made = ∣ (o, starts_from o _ _ _ false c.segments-segments.ensures.rules c.in_ok-journal.ensures.0 c.in_ok-transcript.ensures.items c.in_ok-inner.ensures.machine) ∣₁ }

pub returns-clause-origin : goal.returns-clause-origin
returns-clause-origin c =
    let o : Origin = record { image = c.args.image.now; symbols = c.args.names; lines = c.args.script; harts = c.args.harts; limit = c.args.limit } in
    starts_from o _ _ _ false c.segments-segments.ensures.rules c.in_ok-journal.ensures.0 c.in_ok-transcript.ensures.items c.in_ok-inner.ensures.machine
