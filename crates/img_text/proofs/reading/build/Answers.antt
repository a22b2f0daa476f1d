use Rattle.img_text.proofs.Sound.{AreSegments-next, IsShort-at}
use Rattle.img_text.proofs.reading.build.Goals as goal

pub add-requires-clause-rules : goal.add-requires-clause-rules
add-requires-clause-rules c = rw c.loop-block.invariant (AreSegments-next c.args.blocks.now c.loop-block.block-index c.block-item.result c.loop-block-test.true c.block-item.is c.requires.rules)

pub add-requires-clause-fits : goal.add-requires-clause-fits
add-requires-clause-fits c = rw c.as_slice.ensures.value (IsShort-at c.args.blocks.now c.loop-block.block-index c.block-item.result c.loop-block-test.true c.block-item.is c.requires.short)
