use Rattle.std.proofs.Common.{length, ◌<◌, arith}
use Rattle.deck_core.proofs.SeatSteps.{writes_seats}
use Rattle.deck_core.proofs.decks.seat_steps.writes.Goals as goal

pub returns : goal.returns
returns c = λ limit told.
    let within : c.args.h.0 < length c.args.seats.now.words.x = omega (arith, c.args.seats.now.own_words) in
    let within2 : c.args.h.0 < length c.args.seats.now.phases = omega (arith, c.args.seats.now.all_phases) in
    writes_seats limit c.args.seats.now told c.args.h.0 c.args.word c.args.phase within within2
