use Rattle.std.proofs.Common.{◌≡◌, ◌+◌, ◌-◌, ◌/◌, ◌^◌, ◌≤◌, ◌++◌, vec_len, vec_capacity}
use Rattle.mach_base.specs.Number.{hex_text}
use Rattle.mach_base.proofs.number.put_hex.Given as goal

-- the digits above this place are out, and there is room for the others
abbrev pub invariant-loop-place : goal.invariant-loop-place
invariant-loop-place l = record {
  in_range : l.place ≤ l.digits;
  told : l.out.items ≡ l.fn.out.items ++ hex_text (l.digits - l.place) (l.value / 16 ^ l.place);
  room : vec_len l.out + l.place ≤ vec_capacity l.out;
  capacity : vec_capacity l.out ≡ vec_capacity l.fn.out;
}
