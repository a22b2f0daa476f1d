use Rattle.std.proofs.Common.{◌≡◌, take, map}
use Rattle.img_text.specs.Image.{filled}
use Rattle.img_text.specs.Blocks.{parts_of}
use Rattle.img_text.proofs.reading.build.Given as goal

-- the segments so far, each filled up
abbrev pub invariant-loop-block : goal.invariant-loop-block
invariant-loop-block l = l.image ≡ record { parts = map (λ p. filled p.segment p.bytes) (parts_of (take l.block-index l.blocks)); pcs = l.fn.pcs; sps = l.fn.sps }
