use Rattle.std.proofs.Common.{arith}
use Rattle.mach_base.specs.Number.{dec_text}
use Rattle.atom_mach.proofs.Lengths.{grown, hart_digits}
use Rattle.atom_mach.proofs.texts.put_hart.Goals as goal

pub returns-clause-most : goal.returns-clause-most
returns-clause-most c =
    let g = grown c.args.out.now.items c.put_dec.new.out.items (dec_text c.args.number) 2 (rw c.from.ensures at c.put_dec.ensures.text) (hart_digits c.args.number c.requires.number) in
    omega (arith, g, c.put_dec.new.out.ok.0, c.args.out.now.ok.0)
