use Rattle.std.proofs.Common.{◌≡◌, true}
use Rattle.deck_core.specs.ticks.Phases.{is_finished}
use Rattle.hart_prog.specs.Program.{Stands}
use Rattle.board_turn.specs.Ready.{seat_in}
use Rattle.board_elect.specs.Decks.{IsSeated, SameBoard}
use Rattle.kdbsim_runs.proofs.tests_on_a_board.make_ticks.Given as goal

abbrev pub invariant-loop : goal.invariant-loop
invariant-loop g l =
    Stands l.prog (seat_in l.seat.idle l.seat.pass)
    × IsSeated g.B.Bus.told g.B.Bus.SameOrigin l.seat.board.now.table.shared.table_id l.seat.pass l.seat.held
    × SameBoard l.fn.seat.board.now.table.shared.table_id l.seat.board.now.table.shared.table_id l.fn.seat.pass l.seat.pass
    × (l.fn.seat.pass.stand.hart.0 ≡ l.seat.pass.stand.hart.0)
    × (l.is_done ≡ true → is_finished l.seat.pass.stand.phase ≡ true)
