use Rattle.std.proofs.Common.{◌∙◌, ap, arith}
use Rattle.deck_core.specs.ticks.NextPhase.{is_transaction}
use Rattle.board_elect.proofs.Rights.{shut_allowed}
use Rattle.board_elect.proofs.Standings.{stands_out}
use Rattle.board_elect.proofs.gate.shut.Goals as goal

pub fetch_add-found-requires : goal.fetch_add-found-requires
fetch_add-found-requires g c =
    let r = c.requires.ready in
    (r.of_table, omega (arith, c.args.board.now.all_words, r.below, r.few), shut_allowed g.B.Bus.told g.B.Bus.SameOrigin _ _ c.args.pass.now.seat.me r.live (stands_out r (ap is_transaction c.requires.phase)) (ap (λ a. a.phase) r.view ∙ c.requires.phase))
