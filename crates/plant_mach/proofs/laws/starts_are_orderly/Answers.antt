use Rattle.plant_mach.proofs.Ordered.{starts_are_orderly as law}
use Rattle.plant_mach.proofs.laws.starts_are_orderly.Goals as goal

pub returns : goal.returns
returns c = law
