use Rattle.atom_mach.proofs.Runs.{runs_join}
use Rattle.atom_mach.proofs.laws.runs_join.Goals as goal

pub returns : goal.returns
returns c = runs_join
