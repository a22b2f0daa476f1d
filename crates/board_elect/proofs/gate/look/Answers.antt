use Rattle.std.proofs.Common.{◌≡◌, ◌<◌, ◌∙◌, ap, arith, subst, sym}
use Rattle.deck_core.specs.decks.Seat.{looks_in}
use Rattle.deck_core.specs.ticks.NextPhase.{GoesOn, is_transaction}
use Rattle.board_elect.proofs.Rights.{look_at}
use Rattle.board_elect.proofs.Standings.{look_on}
use Rattle.board_elect.proofs.gate.look.Goals as goal

pub load-seen-requires : goal.load-seen-requires
load-seen-requires g c =
    let r = c.requires.ready in
    let looks = c.in-Gather.looks in
    let at = c.args.pass.now.stand in
    let place = ap (λ a. a.place) r.view ∙ r.outside (ap is_transaction c.in-Gather.is) in
    let range : (looks.next < at.harts) × (looks.rounds < at.limit) = subst (GoesOn at.limit at.harts at.hart.0) c.in-Gather.is r.in_range in
    let next : c.args.k.0 ≡ looks.next = c.requires.next ∙ ap (λ p. (looks_in p).next) c.in-Gather.is in
    let low = range.0 in (
      r.of_table,
      omega (arith, c.args.board.now.all_words, low, r.few, next),
      look_at g.B.Bus.told g.B.Bus.SameOrigin _ _ c.args.k.0 looks c.args.pass.now.seat.me (sym next) r.live place (ap (λ a. a.phase) r.view ∙ c.in-Gather.is) (omega (arith, low, r.few)),
    )

pub returns-then-counts-clause-ready : goal.returns-then-counts-clause-ready
returns-then-counts-clause-ready g c =
    look_on c.args.board.now.table.shared.table_id c.args.pass.now.seat c.load-seen.new.seat c.args.pass.now.stand c.requires.ready c.load-seen.ensures.0
    c.in-Gather.looks c.load-seen.result c.is_counted-counts.result c.after_look-pass.result c.in-Gather.is c.load-seen.ensures.2 c.is_counted-counts.ensures c.after_look-pass.ensures

pub returns-else-counts-clause-ready : goal.returns-else-counts-clause-ready
returns-else-counts-clause-ready g c =
    look_on c.args.board.now.table.shared.table_id c.args.pass.now.seat c.load-seen.new.seat c.args.pass.now.stand c.requires.ready c.load-seen.ensures.0
    c.in-Gather.looks c.load-seen.result c.is_counted-counts.result c.after_look-pass.result c.in-Gather.is c.load-seen.ensures.2 c.is_counted-counts.ensures c.after_look-pass.ensures
