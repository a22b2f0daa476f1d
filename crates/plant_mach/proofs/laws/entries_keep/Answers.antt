use Rattle.plant_mach.proofs.Others.{entries_keep as law}
use Rattle.plant_mach.proofs.laws.entries_keep.Goals as goal

pub returns : goal.returns
returns c = law
