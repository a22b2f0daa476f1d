use Rattle.std.proofs.Common.{◌≡◌, ◌+◌, ◌-◌, ◌^◌, ◌≤◌, drop, length}
use Rattle.plan_text.specs.Ticks.{ticks_of}
use Rattle.plan_text.specs.Reading.{told}
use Rattle.plan_text.proofs.plan.tick_count.Given as goal

-- the ticks of the runs so far, and those of the runs that are left
abbrev pub invariant-loop-run : goal.invariant-loop-run
invariant-loop-run l = record {
  fits : l.count ≤ 2 ^ 64 - 1;
  same : told (l.count + length (ticks_of (drop l.run-index l.runs))) ≡ told (length (ticks_of l.runs));
}
