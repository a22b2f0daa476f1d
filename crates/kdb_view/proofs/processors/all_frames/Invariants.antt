use Rattle.std.proofs.Common.{◌≡◌}
use Rattle.kdb_view.specs.Processors.{frames_below}
use Rattle.kdb_view.proofs.processors.all_frames.Given as goal

-- the frames so far
abbrev pub invariant-loop-number : goal.invariant-loop-number
invariant-loop-number g l = l.out.items ≡ frames_below l.gathered l.view l.number
