use Rattle.std.proofs.Common.{◌≡◌, true}
use Rattle.deck_core.specs.ticks.Phases.{is_finished}
use Rattle.hart_prog.specs.Program.{Stands}
use Rattle.board_turn.specs.Ready.{seat_in}
use Rattle.board_elect.specs.Decks.{IsSeated, SameBoard}
use Rattle.kdbsim_runs.proofs.tests_on_a_board.drive.Given as goal

abbrev pub invariant-loop-hart : goal.invariant-loop-hart
invariant-loop-hart g l =
    (Stands l.progs.0 (seat_in l.one.idle l.one.pass)
    × IsSeated g.B.Bus.told g.B.Bus.SameOrigin l.one.board.now.table.shared.table_id l.one.pass l.one.held
    × SameBoard l.fn.board.table.shared.table_id l.one.board.now.table.shared.table_id l.fn.first l.one.pass
    × (l.fn.first.stand.hart.0 ≡ l.one.pass.stand.hart.0)
    × (l.done.0 ≡ true → is_finished l.one.pass.stand.phase ≡ true))
    × (Stands l.progs.1 (seat_in l.other.idle l.other.pass)
    × IsSeated g.B.Bus.told g.B.Bus.SameOrigin l.other.board.now.table.shared.table_id l.other.pass l.other.held
    × SameBoard l.fn.board.table.shared.table_id l.other.board.now.table.shared.table_id l.fn.second l.other.pass
    × (l.fn.second.stand.hart.0 ≡ l.other.pass.stand.hart.0)
    × (l.done.1 ≡ true → is_finished l.other.pass.stand.phase ≡ true))
