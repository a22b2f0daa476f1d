use Rattle.mem_map.proofs.Stores.{store_keeps_fetched}
use Rattle.mem_map.proofs.laws.store_keeps_text.Goals as goal

pub returns : goal.returns
returns c = store_keeps_fetched
