use Rattle.atom_mach.proofs.LateSessions.{late_sessions_keep}
use Rattle.atom_mach.proofs.laws.late_sessions_keep_gathered_harts.Goals as goal

pub returns : goal.returns
returns c = late_sessions_keep
