use Rattle.std.proofs.Common.{sym, ◌∙◌}
use Rattle.bus_calls.proofs.Gives.{pass_there}
use Rattle.bus_calls.proofs.Seen.{pass_may}
use Rattle.bus_calls.proofs.bus.CoreBus.pass.Goals as goal

pub faults-requires : goal.faults-requires
faults-requires c = pass_there c.args.self.now c.args.hart (sym c.is_over.ensures ∙ c.if-is_over.false) c.requires.allowed

pub make-requires-clause-legal : goal.make-requires-clause-legal
make-requires-clause-legal c = pass_may c.args.self.now c.args.hart (sym c.is_over.ensures ∙ c.if-is_over.false) c.requires.allowed (sym c.faults.ensures ∙ c.if-faults.false)
