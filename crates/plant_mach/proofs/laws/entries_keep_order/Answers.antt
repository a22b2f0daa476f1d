use Rattle.plant_mach.proofs.Ordered.{entries_keep_order as law}
use Rattle.plant_mach.proofs.laws.entries_keep_order.Goals as goal

pub returns : goal.returns
returns c = law
