use Rattle.std.proofs.Common.{◌≡◌, ◌++◌}
use Rattle.kdb_view.specs.Breakpoints.{first_lines}
use Rattle.kdb_view.proofs.breakpoints.push_places.Given as goal

-- the lines so far
abbrev pub invariant-loop-number : goal.invariant-loop-number
invariant-loop-number l = l.out.items ≡ l.initial.out.items ++ first_lines l.names l.breaks l.number
