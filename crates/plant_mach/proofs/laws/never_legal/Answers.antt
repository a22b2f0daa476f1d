use Rattle.plant_mach.proofs.Others.{never_legal as law}
use Rattle.plant_mach.proofs.laws.never_legal.Goals as goal

pub returns : goal.returns
returns c = law
