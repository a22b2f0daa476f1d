use Rattle.std.proofs.Common.{◌∙◌}
use Rattle.rv_table.specs.Rows.{row_for, the_ops, the_rows}
use Rattle.rv_table.proofs.Groups.{row_of-in_group}
use Rattle.rv_table.proofs.table.find.Goals as goal

pub returns : goal.returns
unfolding row_for the_ops the_rows
returns c = c.find_among.ensures ∙ row_of-in_group c.args.word c.group_of-from.result c.group_of-from.ensures.group
