use Rattle.std.proofs.Common.{◌≡◌, ◌++◌}
use Rattle.gen_load.specs.Input.{goes}
use Rattle.gen_load.proofs.script.push_goes.Given as goal

-- so many lines stand after what was there
abbrev pub invariant-loop-line : goal.invariant-loop-line
invariant-loop-line l = l.out.items ≡ l.fn.out.items ++ goes l.line
