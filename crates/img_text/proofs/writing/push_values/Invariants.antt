use Rattle.std.proofs.Common.{◌≡◌, ◌-◌, ◌*◌, ◌≤◌, ◌++◌, length}
use Rattle.img_text.specs.Writing.{values_text, values_of, written_values}
use Rattle.img_text.proofs.writing.push_values.Given as goal

-- the values so far, and those that are left
abbrev pub invariant-loop : goal.invariant-loop
invariant-loop l = record {
  told : l.out.items ++ values_text (values_of (l.count - l.counter) l.left) ≡ l.fn.out.items ++ values_text (written_values l.bytes);
  room : 8 * (l.count - l.counter) ≤ length l.left;
}
