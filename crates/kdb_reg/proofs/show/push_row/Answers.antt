use Rattle.std.proofs.Common.{codes, ◌+◌, ◌++◌}
use Rattle.kdb_reg.specs.Registers.{register_item, register_row}
use Rattle.mach_base.specs.Texts.{newline}
use Rattle.mach_base.proofs.Joins.{join2, join4}
use Rattle.kdb_reg.proofs.show.push_row.Goals as goal

pub returns : goal.returns
unfolding register_row
returns c =
    let item = register_item c.args.context.now in
    let n = c.args.first in
    let end = item (n + 2) ++ (codes "  " ++ (item (n + 3) ++ newline)) in
    join2 c.args.out.now.items c.push_item.new.out.items c.push_newline.new.out.items (item n) (codes "  " ++ (item (n + 1) ++ (codes "  " ++ end)))
    c.in_ok-push_item.ensures
    (join4 c.push_item.new.out.items c.push_bytes.new.out.items c.push_item-2.new.out.items c.push_bytes-2.new.out.items c.push_newline.new.out.items
    (codes "  ") (item (n + 1)) (codes "  ") end
    c.in_ok-push_bytes.ensures.ok c.in_ok-push_item-2.ensures c.in_ok-push_bytes-2.ensures.ok
    (join4 c.push_bytes-2.new.out.items c.push_item-3.new.out.items c.push_bytes-3.new.out.items c.push_item-4.new.out.items c.push_newline.new.out.items
    (item (n + 2)) (codes "  ") (item (n + 3)) newline
    c.in_ok-push_item-3.ensures c.in_ok-push_bytes-3.ensures.ok c.in_ok-push_item-4.ensures c.in_ok-push_newline.ensures.ok))
