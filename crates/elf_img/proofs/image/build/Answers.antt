use Rattle.elf_img.proofs.Prefixes.{next_segment}
use Rattle.elf_img.proofs.image.build.Goals as goal

pub add-requires-clause-rules : goal.add-requires-clause-rules
add-requires-clause-rules c =
    rw c.loop-h.invariant (next_segment c.args.file.now c.args.loads.now c.loop-h.h-index _ c.segment_of.result c.loop-h-test.true c.segment_of.ensures c.requires.rules)
