use Rattle.std.proofs.Common.{◌≡◌, ◌++◌, map, take, drop}
use Rattle.hart_ctx.specs.Reservation.{without_reservation}
use Rattle.hart_ctx.proofs.reservation.end_reservations.Given as goal

-- the harts so far are done, and the others are as they were
abbrev pub invariant-loop-ctx : goal.invariant-loop-ctx
invariant-loop-ctx l = l.ctxs ≡ map (without_reservation l.first l.last) (take l.ctx-index l.initial.ctxs) ++ drop l.ctx-index l.initial.ctxs
