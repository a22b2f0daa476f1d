use Rattle.std.proofs.Common.{sym, ◌∙◌}
use Rattle.bus_core.specs.Core.{machine_of}
use Rattle.bus_calls.proofs.Done.{asked}
use Rattle.bus_calls.proofs.bus.CoreBus.ask.Goals as goal

pub make-requires-clause-legal : goal.make-requires-clause-legal
make-requires-clause-legal c = (asked c.args.call c.args.self.now c.entry_of.result (sym c.is_over.ensures ∙ c.if-is_over.false) c.requires.allowed c.requires.silent (c.entry_of.ensures (machine_of c.args.self.now.core))).legal

pub make-requires-clause-quiet : goal.make-requires-clause-quiet
make-requires-clause-quiet c = (asked c.args.call c.args.self.now c.entry_of.result (sym c.is_over.ensures ∙ c.if-is_over.false) c.requires.allowed c.requires.silent (c.entry_of.ensures (machine_of c.args.self.now.core))).quiet

pub make-requires-clause-counts : goal.make-requires-clause-counts
make-requires-clause-counts c = (asked c.args.call c.args.self.now c.entry_of.result (sym c.is_over.ensures ∙ c.if-is_over.false) c.requires.allowed c.requires.silent (c.entry_of.ensures (machine_of c.args.self.now.core))).counts
