use Rattle.std.proofs.Common.{◌≡◌, ◌++◌}
use Rattle.kdb_mem.specs.Shown.{whole_lines}
use Rattle.kdb_mem.proofs.lines.push_whole_lines.Given as goal

-- as many lines as turns
abbrev pub invariant-loop-line : goal.invariant-loop-line
invariant-loop-line g l = l.out.items ≡ l.fn.out.items ++ whole_lines (g.P.Peek.memory l.mem) l.addr l.width l.line
