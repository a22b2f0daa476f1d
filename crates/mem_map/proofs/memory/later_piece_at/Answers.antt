use Rattle.std.proofs.Common.{arith, ◌∙◌, sym}
use Rattle.mem_map.proofs.Numbering.{first_held}
use Rattle.mem_map.proofs.memory.later_piece_at.Goals as goal

pub returns-then-holds : goal.returns-then-holds
returns-then-holds c =
    first_held c.args.pieces.now c.args.addr 1 c.index-pieces-1.result c.requires (omega arith) c.index-pieces-1.is (sym c.holds.ensures ∙ c.if-holds.true)
