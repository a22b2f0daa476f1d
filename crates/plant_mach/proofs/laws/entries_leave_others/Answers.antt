use Rattle.plant_mach.proofs.Others.{entries_leave_others as law}
use Rattle.plant_mach.proofs.laws.entries_leave_others.Goals as goal

pub returns : goal.returns
returns c = law
