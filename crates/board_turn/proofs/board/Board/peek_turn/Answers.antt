use Rattle.std.proofs.Common.{◌∙◌, ap, arith}
use Rattle.board_turn.proofs.Turns.{peeks_allowed}
use Rattle.board_turn.proofs.board.Board.peek_turn.Goals as goal

pub load-found-requires : goal.load-found-requires
load-found-requires g c =
    let r = c.requires.ready in
    (r.of_table, omega (arith, c.args.self.now.all_words), peeks_allowed g.B.Bus.told g.B.Bus.SameOrigin _ _ _ r.live (ap (λ a. a.place) r.view ∙ c.requires.place))
