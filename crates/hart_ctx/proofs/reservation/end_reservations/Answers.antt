use Rattle.hart_ctx.specs.Reservation.{without_reservation}
use Rattle.hart_ctx.proofs.InPlace.{write_next, all_done}
use Rattle.std.proofs.Common.{◌∙◌}
use Rattle.hart_ctx.proofs.reservation.end_reservations.Goals as goal

pub loop-ctx-preserved : goal.loop-ctx-preserved
loop-ctx-preserved c =
    write_next (without_reservation c.args.first c.args.last) c.args.ctxs.now c.loop-ctx.ctxs c.loop-ctx.ctx-index c.end_reservation.new.ctx c.ctx-item.result
    c.loop-ctx.invariant c.end_reservation.ensures c.loop-ctx-test.true

pub returns : goal.returns
returns c = c.loop-ctx.invariant ∙ all_done (without_reservation c.args.first c.args.last) c.args.ctxs.now c.loop-ctx.ctx-index c.loop-ctx-test.false
