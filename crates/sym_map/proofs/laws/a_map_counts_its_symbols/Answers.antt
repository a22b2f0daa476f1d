use Rattle.sym_map.proofs.Grammar.{counts_its_symbols}
use Rattle.sym_map.proofs.laws.a_map_counts_its_symbols.Goals as goal

pub returns : goal.returns
returns c = counts_its_symbols
