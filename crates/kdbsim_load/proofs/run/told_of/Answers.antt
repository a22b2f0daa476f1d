use Rattle.std.proofs.Common.{◌≡◌, ◌<◌, ◌^◌, ◌++◌, ap, arith, sym, ℕ}
use Rattle.atom_mach.specs.Texts.{ending_line}
use Rattle.bus_core.specs.Core.{text_of}
use Rattle.kdbsim_runs.proofs.Records.{recorded}
use Rattle.kdbsim_load.proofs.Numbers.{sessions_fit, late_fit}
use Rattle.kdbsim_load.proofs.run.told_of.Goals as goal

pub counts_of-counts-requires-clause-sessions : goal.counts_of-counts-requires-clause-sessions
counts_of-counts-requires-clause-sessions c =
    let fits : c.len-entries.result < 2 ^ 64 = omega (arith, c.len-entries.type_inv) in
    sessions_fit c.journal-journal.result.now.entries c.len-entries.result (2 ^ 64) c.len-entries.ensures fits

pub counts_of-counts-requires-clause-late : goal.counts_of-counts-requires-clause-late
counts_of-counts-requires-clause-late c =
    let fits : c.printed_bytes-printed.result < 2 ^ 64 = omega (arith, c.printed_bytes-printed.type_inv) in
    late_fit c.args.core.now c.journal-journal.result.now.entries c.printed_bytes-printed.result (2 ^ 64) c.requires.kept c.reads_as_a_run.ensures.origin c.journal-journal.ensures c.printed_bytes-printed.ensures fits

pub returns-clause-ending : goal.returns-clause-ending
returns-clause-ending c = λ start from.
    let text = text_of c.args.core.now in
    recorded c.never_legal.ensures start c.args.core.now c.ending_of.result (text ++ ending_line c.ending_of.result c.steps.result) from (c.reads_as_a_run.ensures.run start from) c.requires.kept c.ending_of.ensures
    (ap (λ (n : ℕ). text ++ ending_line c.ending_of.result n) c.steps.ensures)
