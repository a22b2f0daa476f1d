use Rattle.bus_plant.proofs.Raw.{raw_bytes-in, raw_fetches-in}
use Rattle.bus_plant.proofs.laws.raw_memory_has_ebreak_where_planted.Goals as goal

pub returns : goal.returns
returns c = record { bytes = raw_bytes-in; fetches = raw_fetches-in }
