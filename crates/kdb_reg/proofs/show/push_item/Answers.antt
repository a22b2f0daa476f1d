use Rattle.std.proofs.Common.{codes, replicate, ap, ◌++◌, ◌∙◌}
use Rattle.mach_base.specs.Number.{hex_text}
use Rattle.mach_base.proofs.Joins.{join4}
use Rattle.kdb_reg.proofs.Items.{register_item-parts}
use Rattle.kdb_reg.proofs.show.push_item.Goals as goal

pub returns : goal.returns
returns c =
    join4 c.args.out.now.items c.push_blanks.new.out.items c.push_bytes.new.out.items c.push_bytes-2.new.out.items c.push_hex.new.out.items
    (replicate c.saturating_sub.result 32) c.as_bytes-name.result.now (codes ": ") (hex_text 16 c.get.result)
    c.in_ok-push_blanks.ensures c.in_ok-push_bytes.ensures.ok c.in_ok-push_bytes-2.ensures.ok c.in_ok-push_hex.ensures.ok
    ∙ ap (λ x. c.args.out.now.items ++ x) (register_item-parts c.args.context.now c.args.number c.saturating_sub.result c.get.result c.as_bytes-name.result.now (c.as_bytes-name.ensures.value ∙ c.reg_name.ensures) c.saturating_sub.ensures c.get.ensures)
