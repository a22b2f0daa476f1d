use Rattle.std.proofs.Common.{sym, ◌∙◌}
use Rattle.std.proofs.lemmas.Bool.{cond-false}
use Rattle.deck_core.specs.ticks.Configuration.{Configuration}
use Rattle.deck_core.specs.decks.Seats.{configuration_of}
use Rattle.deck_core.specs.ticks.Tick.{goes, is_busy}
use Rattle.deck_core.specs.declared.plain.phase.Place.TheVariants.{Take}
use Rattle.deck_core.proofs.decks.seat_steps.peeks.Goals as goal

pub returns-clause-moves : goal.returns-clause-moves
returns-clause-moves c = λ limit told.
    let old : Configuration = configuration_of limit c.args.seats.now told in
    c.goes.ensures limit told
    ∙ sym (cond-false (is_busy c.args.h.0 c.args.phase old.turn) old (goes c.args.h.0 (Take old.turn) old) (sym c.is_busy.ensures ∙ c.if-is_busy.false))
