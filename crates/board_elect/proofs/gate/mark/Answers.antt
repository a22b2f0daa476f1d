use Rattle.std.proofs.Common.{◌∙◌, ap, arith}
use Rattle.deck_core.specs.ticks.NextPhase.{is_transaction}
use Rattle.board_elect.proofs.Rights.{mark_at}
use Rattle.board_elect.proofs.Standings.{stands_out}
use Rattle.board_elect.proofs.gate.mark.Goals as goal

pub store-requires : goal.store-requires
store-requires g c =
    let r = c.requires.ready in
    (r.of_table, omega (arith, c.args.board.now.all_words, r.below, r.few), mark_at g.B.Bus.told g.B.Bus.SameOrigin _ _ c.args.pass.now.stand.hart.0 c.args.gate c.args.pass.now.seat.me (ap (λ a. a.hart.0) r.view) r.live (stands_out r (ap is_transaction c.requires.phase)) (ap (λ a. a.phase) r.view ∙ c.requires.phase))
