use Rattle.std.proofs.Common.{◌<◌, sym, ◌∙◌, ap, subst, arith}
use Rattle.board_turn.proofs.Seating.{splits_allowed}
use Rattle.board_turn.proofs.board.Board.split.Goals as goal

pub split_seat-seat-requires : goal.split_seat-seat-requires
split_seat-seat-requires g c =
    let r = c.requires.ready in (
      r.of_table,
      omega (arith, c.args.self.now.all_words),
      splits_allowed g.B.Bus.told g.B.Bus.SameOrigin _ _ r.live (ap (λ a. a.hart.0) r.view ∙ c.requires.first)
          (subst (λ a. a.made < a.harts) (sym r.view) c.requires.more) (r.none_joined ∙ ap (λ a. a.made) (sym r.view)),
    )
