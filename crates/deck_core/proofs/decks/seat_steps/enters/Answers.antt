use Rattle.std.proofs.Common.{length, ◌<◌, arith}
use Rattle.deck_core.proofs.SeatSteps.{enters_seats}
use Rattle.deck_core.proofs.decks.seat_steps.enters.Goals as goal

pub returns : goal.returns
returns c = λ limit told.
    let within : c.args.h.0 < length c.args.seats.now.phases = omega (arith, c.args.seats.now.all_phases) in
    enters_seats limit c.args.seats.now told c.args.h.0 c.args.phase within
