use Rattle.std.proofs.Common.{◌≡◌}
use Rattle.kdb_view.specs.Processors.{numbers_text}
use Rattle.kdb_view.proofs.processors.numbers.Given as goal

-- the numbers so far
abbrev pub invariant-loop-number : goal.invariant-loop-number
invariant-loop-number l = l.out.items ≡ numbers_text l.gathered l.number
