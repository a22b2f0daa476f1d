use Rattle.std.proofs.Common.{◌≡◌, drop}
use Rattle.img_text.specs.Boot.{first_text}
use Rattle.img_text.proofs.start.first_text.Given as goal

-- no segment so far holds text
abbrev pub invariant-loop-segment : goal.invariant-loop-segment
invariant-loop-segment l = first_text (drop l.segment-index l.segments) ≡ first_text l.segments
