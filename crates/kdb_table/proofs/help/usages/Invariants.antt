use Rattle.std.proofs.Common.{◌≡◌, take}
use Rattle.kdb_table.specs.Help.{usages_text}
use Rattle.kdb_table.proofs.help.usages.Given as goal

-- the usages so far
abbrev pub invariant-loop-entry : goal.invariant-loop-entry
invariant-loop-entry l = l.out.items ≡ usages_text (take l.entry-index l.entries)
