use Rattle.std.proofs.Common.{length, ap, sym, arith}
use Rattle.mach_base.proofs.Packing.{packed_empty, none_left}
use Rattle.mach_base.proofs.packed.Packed.with_room.Goals as goal

pub invariant_of-result : goal.invariant_of-result
invariant_of-result c =
    let made = c.in_ok-room.ensures in
    let bytes = c.in_ok-room.room.items in
    (packed_empty bytes made.items, sym (ap length (none_left bytes made.items)), omega (arith, made.len, made.capacity))

pub returns : goal.returns
returns c = (none_left c.in_ok-room.room.items c.in_ok-room.ensures.items, omega arith)
