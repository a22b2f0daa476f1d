use Rattle.std.proofs.Common.{sym, ◌∙◌}
use Rattle.bus_calls.proofs.Seen.{line_may, end_may}
use Rattle.bus_calls.proofs.bus.CoreBus.read.Goals as goal

pub read_line-requires-clause-legal : goal.read_line-requires-clause-legal
read_line-requires-clause-legal c = line_may c.args.self.now c.args.hart (sym c.is_over.ensures ∙ c.if-is_over.false) c.requires.allowed (sym c.has_line.ensures ∙ c.if-has_line.true)

pub end_script-requires-clause-legal : goal.end_script-requires-clause-legal
end_script-requires-clause-legal c = end_may c.args.self.now c.args.hart (sym c.is_over.ensures ∙ c.if-is_over.false) c.requires.allowed (sym c.has_line.ensures ∙ c.if-has_line.false)
