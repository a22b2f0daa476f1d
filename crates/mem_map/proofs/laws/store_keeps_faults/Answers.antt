use Rattle.mem_map.proofs.Stores.{write_keeps, store_keeps}
use Rattle.mem_map.proofs.laws.store_keeps_faults.Goals as goal

pub returns : goal.returns
returns c = record { any = write_keeps; store = store_keeps }
