use Rattle.bus_calls.proofs.Ranges.{in_range}
use Rattle.bus_calls.proofs.bus.CoreBus.keeps_told.Goals as goal

pub returns : goal.returns
returns c =
    let bounds = c.keeps_bounds.ensures in
    in_range c.args.self.now bounds.some_harts bounds.few_harts bounds.lines bounds.seated
