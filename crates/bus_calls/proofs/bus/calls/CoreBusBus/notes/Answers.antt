use Rattle.std.proofs.Common.{sym, ◌∙◌}
use Rattle.bus_calls.proofs.Facts.{told_here, told_gone}
use Rattle.bus_calls.proofs.Seen.{rebuilt}
use Rattle.bus_calls.specs.Bus.{told}
use Rattle.bus_calls.proofs.bus.calls.CoreBusBus.notes.Goals as goal

pub returns-then-lost : goal.returns-then-lost
returns-then-lost c = rebuilt (told c.args.self.now) _ _ _ (told_gone c.args.self.now (sym c.lost.ensures ∙ c.if-lost.true) ∙ c.notes_lost.ensures)

pub returns-else-lost : goal.returns-else-lost
returns-else-lost c = rebuilt (told c.args.self.now) _ _ _ (told_here c.args.self.now (sym c.lost.ensures ∙ c.if-lost.false) ∙ c.notes_here.ensures)
