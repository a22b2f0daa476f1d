use Rattle.std.proofs.Common.{◌≡◌, take}
use Rattle.board_turn.specs.Plays.{with_stored}
use Rattle.board_turn.proofs.board.Board.store_notes.Given as goal

abbrev pub invariant-loop-k : goal.invariant-loop-k
invariant-loop-k g l = (l.seat.table_id ≡ l.fn.seat.table_id) × (l.seat.me ≡ with_stored (take l.k l.notes) l.fn.seat.me)
