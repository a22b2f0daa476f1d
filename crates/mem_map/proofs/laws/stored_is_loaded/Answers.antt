use Rattle.mem_map.proofs.Stores.{load_of_stored}
use Rattle.mem_map.proofs.laws.stored_is_loaded.Goals as goal

pub returns : goal.returns
returns c = load_of_stored
