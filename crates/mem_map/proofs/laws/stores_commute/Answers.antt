use Rattle.mem_map.proofs.Twice.{stores_commute, last_remains, same_bytes}
use Rattle.mem_map.proofs.laws.stores_commute.Goals as goal

pub returns : goal.returns
returns c = record { apart = stores_commute; same = last_remains; again = same_bytes }
