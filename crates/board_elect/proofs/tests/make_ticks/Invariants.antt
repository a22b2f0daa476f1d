use Rattle.hart_prog.specs.Program.{Stands}
use Rattle.board_turn.specs.Ready.{seat_in}
use Rattle.board_elect.specs.Decks.{IsSeated}
use Rattle.board_elect.proofs.tests.make_ticks.Given as goal

abbrev pub invariant-loop : goal.invariant-loop
invariant-loop g l =
    Stands l.prog (seat_in l.seat.idle l.seat.pass) × IsSeated g.B.Bus.told g.B.Bus.SameOrigin l.seat.board.now.table.shared.table_id l.seat.pass l.seat.held
