use Rattle.std.proofs.Common.{◌≡◌, ◌<◌, ◌∙◌, ap, arith, length}
use Rattle.std.proofs.lemmas.List.{length-take}
use Rattle.deck_core.specs.ticks.Phases.{holds}
use Rattle.board_turn.proofs.Turns.{stores_at}
use Rattle.board_turn.proofs.board.Board.store_notes.Goals as goal

pub store-requires : goal.store-requires
store-requires g c =
    let i = c.loop-k.invariant in
    let lt : c.loop-k.k < 16 = omega arith in
    let size : length c.loop-k.seat.me.0.stored ≡ c.loop-k.k = ap (λ m. length m.0.stored) i.1 ∙ omega (arith, length-take c.loop-k.k c.args.notes) in (
      i.0 ∙ c.requires.table,
      omega (arith, c.args.self.now.all_words),
      stores_at g.B.Bus.told g.B.Bus.SameOrigin _ _ _ c.loop-k.k c.loop-k.seat.me size (ap (λ m. m.0.live) i.1 ∙ c.requires.live) (ap (λ m. holds m.0.at.place) i.1 ∙ c.requires.holder) lt,
    )
