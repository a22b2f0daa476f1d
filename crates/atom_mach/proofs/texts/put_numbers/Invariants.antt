use Rattle.std.proofs.Common.{◌≡◌, ◌+◌, ◌*◌, ◌≤◌, ◌++◌, vec_len, vec_capacity}
use Rattle.atom_mach.specs.Texts.{numbers_text}
use Rattle.atom_mach.proofs.Joined.{is_empty, below}
use Rattle.atom_mach.proofs.texts.put_numbers.Given as goal

-- the numbers so far, whether there were none, and the room
abbrev pub invariant-loop-number : goal.invariant-loop-number
invariant-loop-number l = record {
  text : l.out.items ≡ l.fn.out.items ++ numbers_text (below l.mask l.number);
  first : l.first ≡ is_empty (below l.mask l.number);
  capacity : vec_capacity l.out ≡ vec_capacity l.fn.out;
  most : vec_len l.out ≤ vec_len l.fn.out + 3 * l.number;
}
