use Rattle.std.proofs.Common.{◌≡◌, length}
use Rattle.mach_base.specs.Lines.{words_of}
use Rattle.plan_text.specs.Reading.{fronted, run_from, run_of, some_harts}
use Rattle.plan_text.proofs.line.run_of.Given as goal

-- the harts so far, and those of the words that are left
abbrev pub invariant-loop-word : goal.invariant-loop-word
invariant-loop-word l = run_of l.harts (words_of l.line) ≡ some_harts (fronted l.found.items (run_from l.harts (words_of l.left)))

abbrev pub decreases-loop-word : goal.decreases-loop-word
decreases-loop-word l = length l.left
