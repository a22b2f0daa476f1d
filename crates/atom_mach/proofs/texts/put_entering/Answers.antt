use Rattle.std.proofs.Common.{codes, ◌++◌}
use Rattle.mach_base.specs.Number.{dec_text}
use Rattle.mach_base.specs.Texts.{newline, address_text}
use Rattle.mach_base.proofs.Joins.{join4}
use Rattle.atom_mach.specs.Texts.{reason_text, entering_text}
use Rattle.atom_mach.proofs.texts.put_entering.Goals as goal

pub returns-clause-text : goal.returns-clause-text
unfolding entering_text
returns-clause-text c =
    join4 c.args.out.now.items c.put_bytes.new.out.items c.put_number.new.out.items c.put_bytes-2.new.out.items c.put_bytes-4.new.out.items
    (codes "Entering kdb on processor ") (dec_text c.args.hart.0) (codes " due to ") (reason_text c.args.reason ++ (codes " @ " ++ (address_text c.args.pc ++ newline)))
    c.put_bytes.ensures.text c.put_number.ensures.text c.put_bytes-2.ensures.text
    (join4 c.put_bytes-2.new.out.items c.put_reason.new.out.items c.put_bytes-3.new.out.items c.put_place.new.out.items c.put_bytes-4.new.out.items
    (reason_text c.args.reason) (codes " @ ") (address_text c.args.pc) newline
    c.put_reason.ensures.text c.put_bytes-3.ensures.text c.put_place.ensures.text c.put_bytes-4.ensures.text)
