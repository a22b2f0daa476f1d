use Rattle.std.proofs.Common.{◌≡◌, ◌-◌, ◌++◌, [], Some, None}
use Rattle.std.specs.Prelude.{replicate}
use Rattle.elf_img.proofs.image.started.Given as goal

-- the harts so far start at the entry
abbrev pub invariant-loop-hart : goal.invariant-loop-hart
invariant-loop-hart l = l.image ≡ record { parts = []; pcs = replicate l.hart (Some l.entry) ++ replicate (16 - l.hart) None; sps = replicate 16 None }
