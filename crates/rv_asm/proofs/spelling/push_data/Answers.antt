use Rattle.std.proofs.Common.{codes}
use Rattle.mach_base.specs.Number.{hex_text}
use Rattle.mach_base.proofs.Joins.{join2}
use Rattle.rv_asm.specs.Spelling.{data_text}
use Rattle.rv_asm.proofs.spelling.push_data.Goals as goal

pub returns : goal.returns
unfolding data_text
returns c = join2 c.args.out.now.items c.push_bytes.new.out.items c.push_hex.new.out.items (codes ".word 0x") (hex_text 8 c.args.word) c.in_ok-push_bytes.ensures.ok (rw c.from.ensures at c.in_ok-push_hex.ensures.ok)
