use Rattle.mem_map.proofs.Stores.{store_changes}
use Rattle.mem_map.proofs.laws.store_changes_its_bytes.Goals as goal

pub returns : goal.returns
returns c = store_changes
