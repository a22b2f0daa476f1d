use Rattle.std.proofs.Common.{◌∙◌, ap, arith}
use Rattle.deck_core.specs.decks.Seat.{sees_gate}
use Rattle.board_elect.proofs.Elects.{sees_out}
use Rattle.board_elect.proofs.Rights.{see_allowed}
use Rattle.board_elect.proofs.Standings.{stands_out}
use Rattle.board_elect.proofs.gate.see_gate.Goals as goal

pub load-gate-requires : goal.load-gate-requires
load-gate-requires g c =
    let r = c.requires.ready in
    (r.of_table, omega (arith, c.args.board.now.all_words, r.below, r.few), see_allowed g.B.Bus.told g.B.Bus.SameOrigin _ _ c.args.pass.now.seat.me r.live (stands_out r (sees_out c.args.pass.now.stand.phase c.requires.phase)) (ap (λ a. sees_gate a.phase) r.view ∙ c.requires.phase))
