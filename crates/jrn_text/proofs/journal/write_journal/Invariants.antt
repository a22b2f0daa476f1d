use Rattle.std.proofs.Common.{◌≡◌, ◌++◌}
use Rattle.jrn_text.specs.Entries.{lines_text}
use Rattle.jrn_text.specs.Journal.{header_text}
use Rattle.jrn_text.proofs.journal.write_journal.Given as goal

-- the lines of the entries so far are out
abbrev pub invariant-loop-entry : goal.invariant-loop-entry
invariant-loop-entry l = record {
  told : l.out.items ≡ header_text l.harts l.limit ++ lines_text l.yielded;
  left : l.entries.entries ≡ l.yielded ++ l.entry-iterator;
}
