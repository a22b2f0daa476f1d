use Rattle.std.proofs.Common.{◌≡◌, ◌++◌, false}
use Rattle.bus_core.specs.Core.{entries_of, ComesFrom}
use Rattle.kdbsim_runs.proofs.replays.replay.Given as goal

-- the entries so far were made, from the start
abbrev pub invariant-loop-entry : goal.invariant-loop-entry
invariant-loop-entry l = record {
  kept : l.core.lost ≡ false;
  made : entries_of l.core ≡ l.yielded;
  origin : ComesFrom (record { image = l.fn.image; symbols = l.fn.names; lines = l.fn.script; harts = l.journal.harts; limit = l.journal.limit }) l.core;
  left : l.journal.entries.entries ≡ l.yielded ++ l.entry-iterator;
}
