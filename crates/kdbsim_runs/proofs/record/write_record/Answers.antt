use Rattle.std.proofs.Common.{◌≡◌, ◌≤◌, ◌&&◌, true, List, sym, ap, ◌∙◌, subst, arith}
use Rattle.std.specs.List.{AllByRecursion}
use Rattle.mach_base.specs.declared.limits.TheConstants.{MOST_HARTS, MOST_STEPS}
use Rattle.jrn_text.specs.Entries.{IsEntry}
use Rattle.jrn_text.specs.Journal.{IsHeader, IsJournal}
use Rattle.bus_core.specs.Core.{entries_of}
use Rattle.kdbsim_runs.specs.Record.{IsOfHarts}
use Rattle.kdbsim_runs.proofs.JournalEntries.{header, all_in_journal}
use Rattle.kdbsim_runs.proofs.record.write_record.Goals as goal

pub write_journal-requires : goal.write_journal-requires
write_journal-requires c = (
  header c.args.harts c.args.limit c.requires.some_harts c.requires.few_harts c.requires.low c.requires.high,
  subst (AllByRecursion (IsEntry c.args.harts)) (sym c.journal.ensures)
      (all_in_journal c.entries_keep.ensures c.entries_keep_order.ensures c.starts_are_orderly.ensures c.args.harts c.args.core.now c.requires.origin),
)
