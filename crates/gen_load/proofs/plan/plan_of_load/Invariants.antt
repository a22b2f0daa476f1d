use Rattle.std.proofs.Common.{◌≡◌, ◌≤◌, vec_len, vec_capacity}
use Rattle.gen_load.specs.Input.{plan_to, sequence}
use Rattle.gen_load.proofs.plan.plan_of_load.Given as goal

-- the ticks so far, their number, the number that was drawn last, and room for the others
abbrev pub invariant-loop-tick : goal.invariant-loop-tick
invariant-loop-tick l =
    (l.plan.items ≡ plan_to l.fn.number l.tick) × (vec_len l.plan ≡ l.tick) × (l.drawn ≡ sequence l.fn.number l.tick) × (l.ticks ≤ vec_capacity l.plan)
