use Rattle.std.proofs.Common.{arith}
use Rattle.mach_base.specs.Number.{dec_text}
use Rattle.atom_mach.proofs.Lengths.{grown, byte_digits}
use Rattle.atom_mach.proofs.texts.put_number.Goals as goal

pub returns-clause-most : goal.returns-clause-most
returns-clause-most c =
    let g = grown c.args.out.now.items c.put_dec.new.out.items (dec_text c.args.number) 3 (rw c.from.ensures at c.put_dec.ensures.text) (byte_digits c.args.number (omega (arith, c.ranges.number))) in
    omega (arith, g, c.put_dec.new.out.ok.0, c.args.out.now.ok.0)
