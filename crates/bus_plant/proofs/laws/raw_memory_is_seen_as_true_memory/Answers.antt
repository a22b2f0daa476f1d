use Rattle.bus_plant.proofs.Raw.{raw_faults-in, raw_loads-in, raw_stores-in, raw_word_faults-in, raw_execution-in}
use Rattle.bus_plant.proofs.laws.raw_memory_is_seen_as_true_memory.Goals as goal

pub returns : goal.returns
returns c = record { faults = raw_faults-in; loads = raw_loads-in; stores = raw_stores-in; word_faults = raw_word_faults-in; execution = raw_execution-in }
