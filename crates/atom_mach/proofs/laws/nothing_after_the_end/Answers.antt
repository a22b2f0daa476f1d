use Rattle.atom_mach.proofs.Runs.{nothing_after}
use Rattle.atom_mach.proofs.laws.nothing_after_the_end.Goals as goal

pub returns : goal.returns
returns c = nothing_after
