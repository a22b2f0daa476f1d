use Rattle.std.proofs.Common.{◌≡◌, map}
use Rattle.std.specs.List.{range_with_len}
use Rattle.img_text.specs.Boot.{first_context}
use Rattle.img_text.proofs.start.boot_contexts.Given as goal

-- the contexts of the harts so far
abbrev pub invariant-loop-hart : goal.invariant-loop-hart
invariant-loop-hart l = l.ctxs.items ≡ map (first_context l.image) (range_with_len 0 l.hart)
