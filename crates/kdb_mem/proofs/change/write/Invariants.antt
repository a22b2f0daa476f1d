use Rattle.std.proofs.Common.{◌≡◌}
use Rattle.mach_base.specs.Bytes.{with_value}
use Rattle.kdb_mem.proofs.change.write.Given as goal

-- as many bytes as turns are written, and nothing else is
abbrev pub invariant-loop-i : goal.invariant-loop-i
invariant-loop-i g l = record {
  written : g.P.Peek.memory l.mem ≡ with_value (g.P.Peek.memory l.fn.mem) l.addr l.i l.value;
  rest : g.P.Peek.rest l.mem ≡ g.P.Peek.rest l.fn.mem;
}
