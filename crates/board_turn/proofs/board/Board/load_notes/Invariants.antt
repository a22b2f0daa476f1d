use Rattle.std.proofs.Common.{◌≡◌, ℕ, ◌<◌, get_or, length}
use Rattle.board_turn.specs.Shown.{note, view_told}
use Rattle.board_turn.proofs.board.Board.load_notes.Given as goal

abbrev pub invariant-loop-k : goal.invariant-loop-k
invariant-loop-k g l =
    (l.seat.table_id ≡ l.fn.seat.table_id) × (l.seat.me ≡ l.fn.seat.me) × ((j : ℕ) → j < l.k → get_or l.notes j 0 ≡ note (view_told l.fn.seat.me.0) j)
    × (length l.notes ≡ 16)
