use Rattle.std.proofs.Common.{◌≡◌, ◌++◌, codes, ap}
use Rattle.mach_base.specs.Number.{hex_text}
use Rattle.kdb_reg.specs.Registers.{register_rows, registers_text}
use Rattle.mach_base.specs.Texts.{newline}
use Rattle.mach_base.proofs.Joins.{join4}
use Rattle.kdb_reg.proofs.show.push_registers.Goals as goal

pub returns : goal.returns
unfolding registers_text
returns c =
    let digits : c.push_hex.new.out.items ≡ c.push_bytes.new.out.items ++ hex_text 16 c.context.inside.pc = c.in_ok-push_hex.ensures.ok in
    let pc_is : c.context.inside.pc ≡ c.args.context.now.pc = ap (λ x. x.pc) c.context.view_is in
    join4 c.args.out.now.items c.push_rows.new.out.items c.push_bytes.new.out.items c.push_hex.new.out.items c.push_newline.new.out.items
    (register_rows c.args.context.now 8) (codes "  pc: ") (hex_text 16 c.args.context.now.pc) newline
    c.in_ok-push_rows.ensures c.in_ok-push_bytes.ensures.ok (rw pc_is at digits) c.in_ok-push_newline.ensures.ok
