use Rattle.sym_map.proofs.Grammar.{names_the_first_bad_line}
use Rattle.sym_map.proofs.laws.a_map_names_its_first_bad_line.Goals as goal

pub returns : goal.returns
returns c = names_the_first_bad_line
