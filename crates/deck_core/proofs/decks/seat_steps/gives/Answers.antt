use Rattle.std.proofs.Common.{length, ◌<◌, arith}
use Rattle.deck_core.proofs.SeatSteps.{gives_seats}
use Rattle.deck_core.proofs.decks.seat_steps.gives.Goals as goal

pub returns : goal.returns
returns c = λ limit told after e.
    let within : c.args.h.0 < length c.args.seats.now.phases = omega (arith, c.args.seats.now.all_phases) in
    let within2 : c.args.h.0 < length c.args.seats.now.places = omega (arith, c.args.seats.now.all_places) in
    gives_seats limit c.args.seats.now told after c.args.h.0 c.args.mask c.args.phase e within within2
