use Rattle.std.proofs.Math.Logic.{∥∥₁_map}
use Rattle.bus_core.specs.Core.{machine_of, entries_of, text_of}
use Rattle.bus_core.proofs.Lists.{orderly}
use Rattle.bus_core.proofs.outer.Core.keeps_order.Goals as goal

pub returns : goal.returns
returns c =
    let core = c.args.self.now in
    ∥∥₁_map core.made (λ h. orderly c.starts_are_orderly.ensures c.entries_keep_order.ensures (entries_of core) (text_of core) (machine_of core) core.lost c.requires h)
