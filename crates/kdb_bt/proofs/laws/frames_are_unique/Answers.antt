use Rattle.kdb_bt.proofs.Longest.{frames_are_unique}
use Rattle.kdb_bt.proofs.laws.frames_are_unique.Goals as goal

pub returns : goal.returns
returns c = frames_are_unique
