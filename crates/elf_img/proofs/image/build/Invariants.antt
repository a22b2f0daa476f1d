use Rattle.std.proofs.Common.{◌≡◌, map, take, Some, None}
use Rattle.std.specs.Prelude.{replicate}
use Rattle.elf_img.specs.Segments.{part_of}
use Rattle.elf_img.proofs.image.build.Given as goal

-- the segments so far
abbrev pub invariant-loop-h : goal.invariant-loop-h
invariant-loop-h l = l.image ≡ record { parts = map (part_of l.file) (take l.h-index l.loads); pcs = replicate 16 (Some l.fn.entry); sps = replicate 16 None }
