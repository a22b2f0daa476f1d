use Rattle.std.proofs.Common.{◌∙◌, ap, arith}
use Rattle.deck_core.specs.ticks.NextPhase.{is_transaction}
use Rattle.board_elect.proofs.Rights.{open_allowed}
use Rattle.board_elect.proofs.Standings.{stands_out}
use Rattle.board_elect.proofs.gate.open_gate.Goals as goal

pub fetch_add-requires : goal.fetch_add-requires
fetch_add-requires g c =
    let r = c.requires.ready in
    (r.of_table, omega (arith, c.args.board.now.all_words, r.below, r.few), open_allowed g.B.Bus.told g.B.Bus.SameOrigin _ _ c.args.pass.now.seat.me r.live (stands_out r (ap is_transaction c.requires.phase)) (ap (λ a. a.phase) r.view ∙ c.requires.phase))
