use Rattle.std.proofs.Common.{◌≡◌, ◌++◌, length}
use Rattle.std.specs.List.{AllByRecursion}
use Rattle.jrn_text.specs.Entries.{IsEntry, lines_text}
use Rattle.jrn_text.proofs.journal.read_entries.Given as goal

-- the lines so far are those of the entries so far
abbrev pub invariant-loop-rest : goal.invariant-loop-rest
invariant-loop-rest l = record {
  all : AllByRecursion (IsEntry l.harts) l.entries.entries;
  from : l.text ≡ lines_text l.entries.entries ++ l.rest;
}

abbrev pub decreases-loop-rest : goal.decreases-loop-rest
decreases-loop-rest l = length l.rest
