use Rattle.std.proofs.Common.{arith, ◌∙◌, sym}
use Rattle.mem_map.proofs.Numbering.{first_begun, none_begun}
use Rattle.mem_map.proofs.memory.found_piece_at.Goals as goal

pub returns-then-holds : goal.returns-then-holds
returns-then-holds c =
    first_begun c.args.pieces.now c.args.addr c.count_begun-count.result c.index-pieces-count.result c.requires c.count_begun-count.ensures (omega arith) c.index-pieces-count.is (sym c.holds.ensures ∙ c.if-holds.true)

pub returns-else-holds : goal.returns-else-holds
returns-else-holds c =
    none_begun c.args.pieces.now c.args.addr c.count_begun-count.result c.index-pieces-count.result c.requires c.count_begun-count.ensures (omega arith) c.index-pieces-count.is (sym c.holds.ensures ∙ c.if-holds.false)
