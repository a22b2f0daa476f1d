use Rattle.std.proofs.Common.{◌≡◌, ◌-◌, ◌≤◌, length, vec_len}
use Rattle.kdb_view.specs.Variables.{first_lines}
use Rattle.kdb_view.proofs.variables.env.Given as goal

-- the lines so far
abbrev pub invariant-loop-pair : goal.invariant-loop-pair
invariant-loop-pair l = record { lines : l.out.items ≡ first_lines l.env l.place; within : l.place ≤ length l.env; fits : l.place ≤ vec_len l.out }

abbrev pub decreases-loop-pair : goal.decreases-loop-pair
decreases-loop-pair l = length l.env - l.place
