use Rattle.std.proofs.Common.{◌≡◌, ◌++◌}
use Rattle.kdb_bt.proofs.Chain.{rest_text}
use Rattle.kdb_bt.proofs.show.push_callers.Given as goal

-- what is printed, with what the frames from here on print
abbrev pub invariant-loop-number : goal.invariant-loop-number
invariant-loop-number g l =
    l.initial.out.items ++ rest_text (g.P.Peek.memory l.mem) l.names 1 l.start ≡ l.out.items ++ rest_text (g.P.Peek.memory l.mem) l.names l.number l.pointer
