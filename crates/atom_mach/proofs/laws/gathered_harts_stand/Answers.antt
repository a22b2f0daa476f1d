use Rattle.atom_mach.proofs.LateSessions.{gathered_harts_stand}
use Rattle.atom_mach.proofs.laws.gathered_harts_stand.Goals as goal

pub returns : goal.returns
returns c = gathered_harts_stand
