use Rattle.hart_prog.specs.Program.{Stands}
use Rattle.board_turn.specs.Ready.{seat_in}
use Rattle.board_elect.specs.Decks.{IsSeated}
use Rattle.board_elect.proofs.tests.rows_that_hold.Given as goal

abbrev pub invariant-loop-i : goal.invariant-loop-i
invariant-loop-i g l =
    Stands l.progs.0 (seat_in l.first.idle l.first.pass) × IsSeated g.B.Bus.told g.B.Bus.SameOrigin l.first.board.now.table.shared.table_id l.first.pass l.first.held
    × Stands l.progs.1 (seat_in l.second.idle l.second.pass) × IsSeated g.B.Bus.told g.B.Bus.SameOrigin l.second.board.now.table.shared.table_id l.second.pass l.second.held
