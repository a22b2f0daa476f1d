use Rattle.rv_table.specs.Rows.{the_rows}
use Rattle.rv_table.proofs.Apart.{AllPairs-all_apart, the_rows_apart}
use Rattle.rv_table.proofs.Found.{row_of-matches}
use Rattle.rv_table.proofs.table.rows_are_disjoint.Goals as goal

pub returns : goal.returns
returns c = record { disjoint = AllPairs-all_apart the_rows the_rows_apart; one = row_of-matches }
