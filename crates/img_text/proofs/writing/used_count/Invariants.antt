use Rattle.std.proofs.Common.{◌≡◌, ◌-◌}
use Rattle.img_text.specs.Writing.{values_of, used_values, written_values}
use Rattle.img_text.proofs.writing.used_count.Given as goal

-- the values that are left out so far are 0
abbrev pub invariant-loop-left_out : goal.invariant-loop-left_out
invariant-loop-left_out l = used_values (values_of (l.count - l.left_out) l.bytes) ≡ written_values l.bytes
