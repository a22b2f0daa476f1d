use Rattle.std.proofs.Common.{◌≡◌, ◌++◌}
use Rattle.kdb_mem.specs.Shown.{instructions_text}
use Rattle.kdb_mem.proofs.instruction_lines.push_instruction_lines.Given as goal

-- as many lines as turns
abbrev pub invariant-loop-line : goal.invariant-loop-line
invariant-loop-line g l = l.out.items ≡ l.fn.out.items ++ instructions_text (g.P.Peek.memory l.mem) l.addr l.line
