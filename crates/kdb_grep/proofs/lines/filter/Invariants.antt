use Rattle.std.proofs.Common.{◌≡◌, ◌++◌, length}
use Rattle.kdb_grep.specs.Filter.{filtered, pattern_of}
use Rattle.kdb_grep.proofs.lines.filter.Given as goal

-- what is kept so far, and then what is left of the rest, is what is left of the text
abbrev pub invariant-loop-rest : goal.invariant-loop-rest
invariant-loop-rest l = l.out.items ++ filtered (pattern_of l.pattern) l.rest ≡ filtered (pattern_of l.pattern) l.text

abbrev pub decreases-loop-rest : goal.decreases-loop-rest
decreases-loop-rest l = length l.rest
