use Rattle.asm_text.proofs.Running.{places_are_running}
use Rattle.asm_text.proofs.laws.a_place_is_where_the_next_byte_stands.Goals as goal

pub returns : goal.returns
returns c = places_are_running
