-- The segments that the code keeps while it reads, as parts.
use Rattle.std.specs.Prelude.{List, map, reverse}
use Rattle.mach_base.specs.Machine.{Part}
use Rattle.img_text.specs.declared.blocks.Block.{Block}

-- a block as a part
abbrev pub part_of : Block → Part
part_of block = record { segment = block.segment; bytes = block.bytes.items }

-- the parts in the order of the file
abbrev pub parts_of : List Block → List Part
parts_of blocks = map part_of blocks

-- the same, the latest first
abbrev pub latest_first : List Block → List Part
latest_first blocks = reverse (parts_of blocks)
