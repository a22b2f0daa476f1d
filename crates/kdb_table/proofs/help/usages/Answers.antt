use Rattle.kdb_table.proofs.Usages.{usages_more}
use Rattle.kdb_table.proofs.help.usages.Goals as goal

pub loop-entry-preserved : goal.loop-entry-preserved
loop-entry-preserved c =
    usages_more c.args.entries.now c.loop-entry.entry-index _ c.loop-entry.out.items c.push_usage.new.out.items c.loop-entry-test.true c.loop-entry.invariant c.in_ok-push_usage.ensures
