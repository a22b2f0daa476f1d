use Rattle.std.proofs.Common.{length, ◌<◌, arith}
use Rattle.deck_core.proofs.SeatSteps.{goes_seats}
use Rattle.deck_core.proofs.decks.seat_steps.goes.Goals as goal

pub returns : goal.returns
returns c = λ limit told.
    let within : c.args.h.0 < length c.args.seats.now.places = omega (arith, c.args.seats.now.all_places) in
    goes_seats limit c.args.seats.now told c.args.h.0 c.args.place within
