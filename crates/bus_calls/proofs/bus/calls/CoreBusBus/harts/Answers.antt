use Rattle.std.proofs.Common.{sym, ◌∙◌}
use Rattle.bus_calls.proofs.Seen.{harts_told}
use Rattle.bus_calls.proofs.bus.calls.CoreBusBus.harts.Goals as goal

pub returns : goal.returns
returns c = c.harts.ensures ∙ sym (harts_told c.args.self.now)
