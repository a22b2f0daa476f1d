use Rattle.plant_mach.proofs.Others.{lists_join as law}
use Rattle.plant_mach.proofs.laws.lists_join.Goals as goal

pub returns : goal.returns
returns c = law
