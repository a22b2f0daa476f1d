use Rattle.mem_map.proofs.Twice.{text_apart, number_in-apart}
use Rattle.mem_map.proofs.laws.stores_are_seen_there_alone.Goals as goal

pub returns : goal.returns
returns c = record { text = text_apart; numbers = number_in-apart }
