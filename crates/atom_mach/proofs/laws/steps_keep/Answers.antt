use Rattle.atom_mach.proofs.LimitsKept.{steps_keep}
use Rattle.atom_mach.proofs.laws.steps_keep.Goals as goal

pub returns : goal.returns
returns c = steps_keep
