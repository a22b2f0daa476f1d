use Rattle.atom_mach.proofs.Cuts.{cuts_begin, cuts_grow, cuts_leave, cuts_end, sessions_are_cuts, cuts_count}
use Rattle.atom_mach.proofs.laws.cuts_grow_to_sessions.Goals as goal

pub returns : goal.returns
returns c = record { opening = cuts_begin; lines = cuts_grow; leaving = cuts_leave; last = cuts_end; whole = sessions_are_cuts; count = cuts_count }
