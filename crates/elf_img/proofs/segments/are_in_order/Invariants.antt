use Rattle.std.proofs.Common.{◌≡◌, drop}
use Rattle.elf_img.specs.Segments.{are_in_order}
use Rattle.elf_img.proofs.segments.are_in_order.Given as goal

-- all are in order where those that are left are
abbrev pub invariant-loop-segment : goal.invariant-loop-segment
invariant-loop-segment l = are_in_order 0 l.segments ≡ are_in_order l.end (drop l.segment-index l.segments)
