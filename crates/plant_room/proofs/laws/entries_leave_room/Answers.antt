use Rattle.plant_room.proofs.Rooms.{leaves_room}
use Rattle.plant_room.proofs.laws.entries_leave_room.Goals as goal

pub returns : goal.returns
returns c = leaves_room
