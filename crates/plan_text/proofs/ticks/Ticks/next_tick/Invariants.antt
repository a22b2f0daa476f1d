use Rattle.std.proofs.Common.{◌≡◌, ◌+◌, ◌*◌, ◌^◌, length}
use Rattle.plan_text.specs.Left.{left_in}
use Rattle.plan_text.proofs.ticks.Ticks.next_tick.Given as goal

-- the same ticks are left
abbrev pub invariant-loop-self : goal.invariant-loop-self
invariant-loop-self l = left_in l.self ≡ left_in l.fn.self

abbrev pub decreases-loop-self : goal.decreases-loop-self
decreases-loop-self l = length l.self.runs.now * 2 ^ 64 + l.self.times
