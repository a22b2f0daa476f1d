use Rattle.atom_mach.proofs.Runs.{ruled_runs_unique}
use Rattle.atom_mach.proofs.laws.ruled_runs_are_unique.Goals as goal

pub returns : goal.returns
returns c = ruled_runs_unique
