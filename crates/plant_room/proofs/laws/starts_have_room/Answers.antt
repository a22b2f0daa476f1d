use Rattle.plant_room.proofs.Starts.{start_room}
use Rattle.plant_room.proofs.laws.starts_have_room.Goals as goal

pub returns : goal.returns
returns c = start_room
