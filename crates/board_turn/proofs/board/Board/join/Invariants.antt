use Rattle.std.proofs.Common.{◌≡◌, ◌+◌, length}
use Rattle.board_turn.specs.Plays.{with_left}
use Rattle.board_turn.specs.Ready.{AllDone, start_of}
use Rattle.board_turn.proofs.board.Board.join.Given as goal

abbrev pub invariant-loop-last : goal.invariant-loop-last
invariant-loop-last g l =
    (l.first.seat.table_id ≡ l.initial.first.seat.table_id) × (l.first.seat.me ≡ with_left (length l.others.items + 1) l.initial.first.seat.me)
    × AllDone l.self.table.shared.table_id (start_of l.initial.first) 1 l.others.items

abbrev pub decreases-loop-last : goal.decreases-loop-last
decreases-loop-last g l = goal.left-loop-last g l
