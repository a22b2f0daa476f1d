use Rattle.std.proofs.Common.{◌≡◌, ◌++◌}
use Rattle.kdb_mem.specs.Shown.{characters}
use Rattle.kdb_mem.proofs.lines.push_characters.Given as goal

-- as many characters as turns
abbrev pub invariant-loop-i : goal.invariant-loop-i
invariant-loop-i g l = l.out.items ≡ l.fn.out.items ++ characters (g.P.Peek.memory l.mem) l.addr l.i
