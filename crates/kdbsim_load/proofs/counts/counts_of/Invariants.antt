use Rattle.kdbsim_load.proofs.Sums.{Counting}
use Rattle.kdbsim_load.proofs.counts.counts_of.Given as goal

-- the counts so far
abbrev pub invariant-loop-entry : goal.invariant-loop-entry
invariant-loop-entry l = Counting l.journal.entries l.entry-iterator l.counts.sessions l.counts.late
