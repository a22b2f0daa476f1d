use Rattle.std.proofs.Common.{◌≡◌, ◌+◌, ◌≤◌, ◌++◌, length, vec_len, vec_capacity}
use Rattle.atom_mach.specs.Texts.{with_number}
use Rattle.atom_mach.proofs.texts.put_with_number.Given as goal

-- what stands, and what the rest of the template gives, is the whole; the room of the rest is there
abbrev pub invariant-loop-first : goal.invariant-loop-first
invariant-loop-first l = record {
  text : l.out.items ++ with_number l.number l.left ≡ l.fn.out.items ++ with_number l.number l.template;
  capacity : vec_capacity l.out ≡ vec_capacity l.fn.out;
  most : vec_len l.out + length l.left ≤ vec_len l.fn.out + length l.template;
}

abbrev pub decreases-loop-first : goal.decreases-loop-first
decreases-loop-first l = length l.left
