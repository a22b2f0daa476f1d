use Rattle.std.proofs.Common.{◌≡◌, ◌+◌, length}
use Rattle.board_turn.specs.Ready.{IsFresh, start_of}
use Rattle.run_join.specs.Passes.{OthersFresh}
use Rattle.run_join.proofs.passes.all_passes.Given as goal

abbrev pub invariant-loop : goal.invariant-loop
invariant-loop g l =
    (l.counter ≡ length l.passes.items + 1)
    × IsFresh l.board.table.shared.table_id (start_of l.fn.first) 0 l.fn.harts l.fn.first.stand.limit l.counter l.first
    × OthersFresh l.board.table.shared.table_id (start_of l.fn.first) l.fn.harts l.fn.first.stand.limit 1 l.passes.items
