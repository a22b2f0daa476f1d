use Rattle.std.proofs.Common.{◌≡◌, ◌^◌}
use Rattle.kdbsim_load.proofs.Sums.{at_first, fits_sessions, fits_late, counted_on, at_last}
use Rattle.kdbsim_load.proofs.counts.counts_of.Goals as goal

pub with_entry-counts-requires-clause-sessions : goal.with_entry-counts-requires-clause-sessions
with_entry-counts-requires-clause-sessions c =
    let so_far = c.loop-entry.counts in
    fits_sessions c.args.journal.now.entries c.loop-entry.entry-iterator c.next.new.self c.in-Some.entry so_far.sessions so_far.late (2 ^ 64) c.loop-entry.invariant c.in-Some.ensures.steps c.requires.sessions

pub with_entry-counts-requires-clause-late : goal.with_entry-counts-requires-clause-late
with_entry-counts-requires-clause-late c =
    let so_far = c.loop-entry.counts in
    fits_late c.args.journal.now.entries c.loop-entry.entry-iterator c.next.new.self c.in-Some.entry so_far.sessions so_far.late (2 ^ 64) c.loop-entry.invariant c.in-Some.ensures.steps c.requires.late
