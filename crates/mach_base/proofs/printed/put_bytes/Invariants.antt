use Rattle.std.proofs.Common.{◌≡◌, ◌++◌, take, vec_capacity}
use Rattle.mach_base.proofs.printed.put_bytes.Given as goal

-- the bytes before this one are out, and the room stays
abbrev pub invariant-loop-byte : goal.invariant-loop-byte
invariant-loop-byte l = record {
  told : l.out.items ≡ l.fn.out.items ++ take l.byte-index l.bytes;
  capacity : vec_capacity l.out ≡ vec_capacity l.fn.out;
}
