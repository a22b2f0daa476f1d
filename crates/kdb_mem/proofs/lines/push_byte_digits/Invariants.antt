use Rattle.std.proofs.Common.{◌≡◌, ◌++◌}
use Rattle.kdb_mem.specs.Shown.{byte_digits}
use Rattle.kdb_mem.proofs.lines.push_byte_digits.Given as goal

-- as many bytes as turns
abbrev pub invariant-loop-i : goal.invariant-loop-i
invariant-loop-i g l = l.out.items ≡ l.fn.out.items ++ byte_digits (g.P.Peek.memory l.mem) l.addr l.i
