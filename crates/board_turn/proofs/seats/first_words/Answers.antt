use Rattle.std.proofs.Common.{arith}
use Rattle.board_turn.proofs.Readies.{first_more, first_none}
use Rattle.board_turn.proofs.seats.first_words.Goals as goal

pub loop-k-init : goal.loop-k-init
loop-k-init c = first_none c.args.notes

pub loop-k-preserved : goal.loop-k-preserved
loop-k-preserved c = first_more c.loop-k.words c.args.notes c.loop-k.k (omega arith) c.loop-k.invariant
