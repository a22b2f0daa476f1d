use Rattle.std.proofs.Common.{◌≡◌, ℕ, length, arith, subst}
use Rattle.atom_mach.specs.Modes.{IsSitting}
use Rattle.bus_core.specs.Inner.{machine_of}
use Rattle.bus_core.proofs.Sessions.{open_facts}
use Rattle.bus_core.proofs.Planting.{not_none}
use Rattle.bus_core.proofs.inner.Inner.make_open.Goals as goal

pub reason_now-requires : goal.reason_now-requires
reason_now-requires c =
    let core = c.args.self.now in
    let there = (open_facts (machine_of core) c.args.master c.args.late c.requires.legal).sitting.master in
    omega (arith, core.contexts.ok.0)

pub open-requires-clause-sitting : goal.open-requires-clause-sitting
open-requires-clause-sitting c =
    let core = c.args.self.now in
    let count : length core.contexts.items ≡ core.contexts.len = omega (arith, core.contexts.ok.0) in
    subst (λ (n : ℕ). IsSitting n c.args.master c.args.late) count (open_facts (machine_of core) c.args.master c.args.late c.requires.legal).sitting

pub unreachable-requires : goal.unreachable-requires
unreachable-requires c = not_none _ (open_facts (machine_of c.args.self.now) c.args.master c.args.late c.requires.legal).reason c.in-None.ensures
