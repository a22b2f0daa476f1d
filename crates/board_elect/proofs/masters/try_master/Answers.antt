use Rattle.std.proofs.Common.{◌≡◌, suc, ◌+◌, ◌∙◌, ap, arith, sym}
use Rattle.deck_core.specs.ticks.NextPhase.{is_transaction}
use Rattle.board_elect.proofs.Rights.{try_at}
use Rattle.board_elect.proofs.Standings.{stands_out}
use Rattle.board_elect.proofs.masters.try_master.Goals as goal

pub compare_exchange-found-requires : goal.compare_exchange-found-requires
compare_exchange-found-requires g c =
    let r = c.requires.ready in
    let number : c.from-number.result + 1 ≡ suc c.args.pass.now.stand.hart.0 = omega (arith, c.from-number.ensures) in
    (r.of_table, omega (arith, c.args.board.now.all_words, r.below, r.few), try_at g.B.Bus.told g.B.Bus.SameOrigin _ _ _ c.args.pass.now.seat.me (number ∙ ap (λ a. suc a.hart.0) (sym r.view)) r.live (stands_out r (ap is_transaction c.requires.phase)) (ap (λ a. a.phase) r.view ∙ c.requires.phase))
