use Rattle.std.proofs.Common.{◌≡◌, ◌++◌}
use Rattle.kdb_mem.specs.Shown.{words_text}
use Rattle.kdb_mem.proofs.lines.push_words.Given as goal

-- as many words as turns
abbrev pub invariant-loop-i : goal.invariant-loop-i
invariant-loop-i g l = l.out.items ≡ l.fn.out.items ++ words_text (g.P.Peek.memory l.mem) l.addr l.width l.i
