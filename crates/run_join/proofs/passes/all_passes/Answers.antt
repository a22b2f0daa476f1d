use Rattle.board_turn.specs.Ready.{start_of}
use Rattle.run_join.proofs.Handing.{passes_grow}
use Rattle.run_join.proofs.passes.all_passes.Goals as goal

pub loop-preserved : goal.loop-preserved
loop-preserved g c =
    let i = c.loop.invariant in
    let s = c.split.ensures in
    passes_grow c.args.board.now.table.shared.table_id (start_of c.args.first) c.args.harts c.args.first.stand.limit c.loop.counter c.loop.passes.items c.push.new.self.items c.loop.first c.split.new.pass c.split.result
    i.0 i.1 i.2 s.stand s.ready s.start s.next c.in_ok-push.ensures.items
