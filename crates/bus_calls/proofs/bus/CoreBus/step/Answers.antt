use Rattle.std.proofs.Common.{sym, ◌∙◌}
use Rattle.bus_calls.proofs.Gives.{free_of}
use Rattle.bus_calls.proofs.bus.CoreBus.step.Goals as goal

pub turn-requires-clause-there : goal.turn-requires-clause-there
turn-requires-clause-there c = (free_of c.args.self.now c.args.hart (sym c.is_over.ensures ∙ c.if-is_over.false) c.requires.allowed).0

pub turn-requires-clause-free : goal.turn-requires-clause-free
turn-requires-clause-free c = (free_of c.args.self.now c.args.hart (sym c.is_over.ensures ∙ c.if-is_over.false) c.requires.allowed).1
