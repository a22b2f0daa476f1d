use Rattle.std.proofs.Common.{◌++◌, ◌∷◌, [], ap, ◌∙◌, arith}
use Rattle.mach_base.specs.Packed.{entry_bytes}
use Rattle.mach_base.proofs.Packing.{unpacked_length, unpacked_push, packed_push, pushed_count, pushed_length, entry_bytes_few}
use Rattle.mach_base.proofs.packed.Packed.try_push.Goals as goal

pub put_entry-requires-clause-room : goal.put_entry-requires-clause-room
put_entry-requires-clause-room c = omega (arith, c.in_ok-reserve.ensures.ok, entry_bytes_few c.args.entry)

pub overflow_add-self : goal.overflow_add-self
overflow_add-self c = omega (arith, c.self.invariant.1, unpacked_length c.self.inside.bytes.items)

pub invariant_of-self-2 : goal.invariant_of-self-2
invariant_of-self-2 c =
    let old = c.self.inside.bytes.items in
    let new = c.put_entry.new.out.items in
    let room = c.in_ok-reserve.ensures in
    let text = c.put_entry.ensures.text ∙ ap (λ x. x ++ entry_bytes c.args.entry) room.items in
    let longer = pushed_length old new c.args.entry text in
    (packed_push old new c.args.entry c.self.invariant.0 c.requires.packable text, pushed_count old new c.args.entry c.self.inside.count c.self.invariant.0 c.requires.packable text c.self.invariant.1, omega (arith, longer, room.ok, room.len, c.put_entry.ensures.capacity, entry_bytes_few c.args.entry))

pub returns-clause-ok : goal.returns-clause-ok
returns-clause-ok c =
    let room = c.in_ok-reserve.ensures in
    let text = c.put_entry.ensures.text ∙ ap (λ x. x ++ entry_bytes c.args.entry) room.items in
    unpacked_push c.self.inside.bytes.items c.put_entry.new.out.items c.args.entry c.self.invariant.0 c.requires.packable text ∙ ap (λ v. v.entries ++ c.args.entry ∷ []) c.self.view_is
