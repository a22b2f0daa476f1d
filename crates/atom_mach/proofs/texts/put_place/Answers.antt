use Rattle.std.proofs.Common.{arith}
use Rattle.mach_base.specs.Texts.{address_text}
use Rattle.atom_mach.proofs.Lengths.{grown, address_length}
use Rattle.atom_mach.proofs.texts.put_place.Goals as goal

pub returns-clause-most : goal.returns-clause-most
returns-clause-most c =
    let size = address_length c.args.addr in
    let g = grown c.args.out.now.items c.put_address.new.out.items (address_text c.args.addr) 18 c.put_address.ensures.text (omega (arith, size)) in
    omega (arith, g, c.put_address.new.out.ok.0, c.args.out.now.ok.0)
