use Rattle.std.proofs.Common.{◌≡◌}
use Rattle.kdb_view.specs.Breakpoints.{changed_lines, changed_first}
use Rattle.kdb_view.proofs.breakpoints.all_changed.Given as goal

-- the places so far, and their lines
abbrev pub invariant-loop-number : goal.invariant-loop-number
invariant-loop-number l = record { lines : l.out.items ≡ changed_lines l.change l.fn.breaks l.number; places : l.changed ≡ changed_first l.change l.fn.breaks l.number }
