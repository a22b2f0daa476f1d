use Rattle.std.proofs.Common.{◌≡◌, take}
use Rattle.hart_prog.specs.Plan.{hart_numbers}
use Rattle.kdbsim_load.proofs.run.harts_of.Given as goal

-- the harts of the first numbers
abbrev pub invariant-loop-number : goal.invariant-loop-number
invariant-loop-number l = hart_numbers l.harts.items ≡ take l.number-index l.plan
