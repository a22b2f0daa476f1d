use Rattle.plant_told.proofs.Awake.{entries_leave_awake as law}
use Rattle.plant_told.proofs.laws.entries_leave_awake.Goals as goal

pub returns : goal.returns
returns c = law
