use Rattle.std.proofs.Common.{ap, subst}
use Rattle.board_turn.specs.declared.view.Standing.{Standing}
use Rattle.board_turn.specs.Ready.{start_of}
use Rattle.board_turn.specs.Rule.{IsOrigin}
use Rattle.run_join.specs.Passes.{AreFresh}
use Rattle.run_join.proofs.Handing.{fresh_begin, fresh_done}
use Rattle.run_join.proofs.run.run_all.Goals as goal

pub run_each-passes-requires-after_bounds : goal.run_each-passes-requires-after_bounds
run_each-passes-requires-after_bounds g c κs within =
    let table = c.args.seated.board.table.shared.table_id in
    let start = start_of c.args.seated.first in
    let xs = c.in_ok-passes.passes.items in
    let fresh : AreFresh table start c.args.harts c.args.limit xs =
    subst (λ n. AreFresh table start c.args.harts n xs) (ap (λ (s : Standing). s.limit) c.requires.stand) c.in_ok-passes.ensures in
    fresh_begin table start c.args.harts c.args.limit xs fresh

pub bus_at_end-requires : goal.bus_at_end-requires
bus_at_end-requires g c =
    let table = c.args.seated.board.table.shared.table_id in
    let start = start_of c.args.seated.first in
    (fresh_done table start c.args.harts c.args.seated.first.stand.limit c.in_ok-passes.passes.items c.run_each-passes.result.items c.in_ok-passes.ensures c.run_each-passes.ensures.ran).0

pub returns-clause-origin : goal.returns-clause-origin
returns-clause-origin g c =
    let table = c.args.seated.board.table.shared.table_id in
    let start = start_of c.args.seated.first in
    let d = fresh_done table start c.args.harts c.args.seated.first.stand.limit c.in_ok-passes.passes.items c.run_each-passes.result.items c.in_ok-passes.ensures c.run_each-passes.ensures.ran in
    subst (λ o. IsOrigin g.B.Bus.SameOrigin o c.bus_at_end.result) d.1 c.bus_at_end.ensures.origin
