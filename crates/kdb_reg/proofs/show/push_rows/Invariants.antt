use Rattle.std.proofs.Common.{◌≡◌, ◌++◌}
use Rattle.kdb_reg.specs.Registers.{register_rows}
use Rattle.kdb_reg.proofs.show.push_rows.Given as goal

-- as many rows as turns
abbrev pub invariant-loop-row : goal.invariant-loop-row
invariant-loop-row l = l.out.items ≡ l.fn.out.items ++ register_rows l.context l.row
