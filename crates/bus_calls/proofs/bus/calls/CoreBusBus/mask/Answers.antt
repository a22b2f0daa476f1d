use Rattle.std.proofs.Common.{sym, ◌∙◌}
use Rattle.bus_calls.proofs.Seen.{mask_lost, mask_taken, mask_held}
use Rattle.bus_calls.proofs.bus.calls.CoreBusBus.mask.Goals as goal

pub returns-then-lost : goal.returns-then-lost
returns-then-lost c = mask_lost c.args.self.now (sym c.lost.ensures ∙ c.if-lost.true)

pub returns-then-self : goal.returns-then-self
returns-then-self c = mask_taken c.args.self.now (sym c.lost.ensures ∙ c.if-lost.false) c.if-self.true

pub returns-else-self : goal.returns-else-self
returns-else-self c = c.held.ensures ∙ mask_held c.args.self.now (sym c.lost.ensures ∙ c.if-lost.false) c.if-self.false
