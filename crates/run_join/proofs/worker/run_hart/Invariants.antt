use Rattle.std.proofs.Common.{◌≡◌}
use Rattle.hart_prog.specs.Program.{Stands}
use Rattle.board_turn.specs.Ready.{seat_in}
use Rattle.board_elect.specs.Decks.{IsSeated, SameBoard}
use Rattle.run_join.proofs.worker.run_hart.Given as goal

abbrev pub invariant-loop : goal.invariant-loop
invariant-loop g l =
    (goal.iterator-loop g).can_next l.iterator' × (goal.iterator-loop g).is_finite l.iterator'
    × Stands l.prog (seat_in l.seat.idle l.seat.pass)
    × IsSeated g.B.Bus.told g.B.Bus.SameOrigin l.seat.board.now.table.shared.table_id l.seat.pass l.seat.held
    × SameBoard l.fn.board.table.shared.table_id l.seat.board.now.table.shared.table_id l.fn.pass l.seat.pass
    × (l.fn.pass.stand.hart.0 ≡ l.seat.pass.stand.hart.0)
    × (l.hart.0 ≡ l.seat.pass.stand.hart.0)
