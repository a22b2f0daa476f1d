use Rattle.std.proofs.Common.{◌≡◌, map, take}
use Rattle.elf_img.specs.Segments.{segment_of}
use Rattle.elf_img.proofs.segments.segments_of.Given as goal

-- the segments so far
abbrev pub invariant-loop-h : goal.invariant-loop-h
invariant-loop-h l = l.segments.items ≡ map segment_of (take l.h-index l.loads)
