use Rattle.std.proofs.Common.{◌≡◌, ◌++◌, replicate}
use Rattle.kdb_reg.proofs.show.push_blanks.Given as goal

-- as many blanks as turns
abbrev pub invariant-loop-i : goal.invariant-loop-i
invariant-loop-i l = l.out.items ≡ l.fn.out.items ++ replicate l._i 32
