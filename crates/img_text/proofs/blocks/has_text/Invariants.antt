use Rattle.std.proofs.Common.{◌≡◌, drop}
use Rattle.mem_map.specs.Parts.{segments_of}
use Rattle.img_text.specs.Reading.{has_text}
use Rattle.img_text.specs.Blocks.{parts_of}
use Rattle.img_text.proofs.blocks.has_text.Given as goal

-- no segment so far holds text
abbrev pub invariant-loop-block : goal.invariant-loop-block
invariant-loop-block l = has_text (segments_of (parts_of l.blocks)) ≡ has_text (segments_of (parts_of (drop l.block-index l.blocks)))
