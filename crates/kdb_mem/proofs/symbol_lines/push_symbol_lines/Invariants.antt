use Rattle.std.proofs.Common.{◌≡◌, ◌++◌}
use Rattle.kdb_mem.specs.Shown.{syms_text}
use Rattle.kdb_mem.proofs.symbol_lines.push_symbol_lines.Given as goal

-- as many lines as turns
abbrev pub invariant-loop-line : goal.invariant-loop-line
invariant-loop-line g l = l.out.items ≡ l.fn.out.items ++ syms_text (g.P.Peek.memory l.mem) l.names l.addr l.line
