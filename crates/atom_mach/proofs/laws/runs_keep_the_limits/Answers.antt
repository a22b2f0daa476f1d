use Rattle.atom_mach.proofs.LimitsKept.{run_within}
use Rattle.atom_mach.proofs.laws.runs_keep_the_limits.Goals as goal

pub returns : goal.returns
returns c = run_within
