use Rattle.std.proofs.Common.{◌∙◌, ap, add-one}
use Rattle.deck_core.specs.ticks.Configuration.{Configuration, put}
use Rattle.deck_core.specs.decks.Seats.{configuration_of}
use Rattle.deck_core.proofs.decks.seat_steps.turns_gate.Goals as goal

pub returns : goal.returns
returns c = λ limit told.
    let old : Configuration = configuration_of limit c.args.seats.now told in
    c.enters.ensures limit told ∙ ap (λ g. record old { gate = g; phase = put old.phase c.args.h.0 c.args.phase }) (add-one old.gate)
