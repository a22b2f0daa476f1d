use Rattle.std.proofs.Common.{sym, ◌∙◌}
use Rattle.bus_calls.proofs.Seen.{enter_may}
use Rattle.bus_calls.proofs.bus.CoreBus.open.Goals as goal

pub make-requires-clause-legal : goal.make-requires-clause-legal
make-requires-clause-legal c = enter_may c.args.self.now c.args.hart c.args.late (sym c.is_over.ensures ∙ c.if-is_over.false) c.requires.allowed
