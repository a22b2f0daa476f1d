use Rattle.std.proofs.Common.{◌++◌, ◌∷◌, [], ap, ◌∙◌, arith}
use Rattle.mach_base.proofs.Packing.{unpacked_length, unpacked_push, packed_push, pushed_count, pushed_length}
use Rattle.mach_base.proofs.packed.Packed.push.Goals as goal

pub overflow_add-self : goal.overflow_add-self
overflow_add-self c = omega (arith, c.self.invariant.1, unpacked_length c.self.inside.bytes.items)

pub invariant_of-self : goal.invariant_of-self
invariant_of-self c =
    let old = c.self.inside.bytes.items in
    let new = c.put_entry.new.out.items in
    let longer = pushed_length old new c.args.entry c.put_entry.ensures.text in
    (packed_push old new c.args.entry c.self.invariant.0 c.requires.packable c.put_entry.ensures.text, pushed_count old new c.args.entry c.self.inside.count c.self.invariant.0 c.requires.packable c.put_entry.ensures.text c.self.invariant.1, omega (arith, longer, c.self.invariant.2))

pub returns-clause-entries : goal.returns-clause-entries
returns-clause-entries c =
    unpacked_push c.self.inside.bytes.items c.put_entry.new.out.items c.args.entry c.self.invariant.0 c.requires.packable c.put_entry.ensures.text ∙ ap (λ v. v.entries ++ c.args.entry ∷ []) c.self.view_is
