use Rattle.std.proofs.lemmas.List.{length-map}
use Rattle.img_text.specs.Blocks.{parts_of}
use Rattle.img_text.proofs.Sound.{AreSegments-sound, AllShort-sound, memory_size-lt}
use Rattle.img_text.proofs.reading.whole_image.Goals as goal

pub memory_size-size-requires : goal.memory_size-size-requires
memory_size-size-requires c = memory_size-lt (parts_of c.args.blocks.now) c.requires

pub build-requires-clause-rules : goal.build-requires-clause-rules
build-requires-clause-rules c = AreSegments-sound (parts_of c.args.blocks.now) c.requires (rw length-map c.if-blocks-gt-MOST_SEGMENTS.false) (rw c.memory_size-size.ensures at c.if-size-gt-MOST_MEMORY.false)

pub build-requires-clause-short : goal.build-requires-clause-short
build-requires-clause-short c = AllShort-sound (parts_of c.args.blocks.now) c.requires
