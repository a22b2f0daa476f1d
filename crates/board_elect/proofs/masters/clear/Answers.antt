use Rattle.std.proofs.Common.{◌∙◌, ap, arith}
use Rattle.deck_core.specs.decks.Seat.{clears}
use Rattle.board_elect.proofs.Elects.{clears_out}
use Rattle.board_elect.proofs.Rights.{clear_at}
use Rattle.board_elect.proofs.Standings.{stands_out}
use Rattle.board_elect.proofs.masters.clear.Goals as goal

pub store-requires : goal.store-requires
store-requires g c =
    let r = c.requires.ready in
    (r.of_table, omega (arith, c.args.board.now.all_words, r.below, r.few), clear_at g.B.Bus.told g.B.Bus.SameOrigin _ _ c.args.pass.now.stand.hart.0 c.args.pass.now.seat.me (ap (λ a. a.hart.0) r.view) r.live (stands_out r (clears_out c.args.pass.now.stand.phase c.requires.phase)) (ap (λ a. clears a.phase) r.view ∙ c.requires.phase))
