use Rattle.std.proofs.Common.{refl}
use Rattle.rv_table.specs.Rows.{row_for, the_ops, the_rows}
use Rattle.rv_table.proofs.table.rows.Goals as goal

pub returns : goal.returns
unfolding row_for the_ops the_rows
returns c = refl
