use Rattle.std.proofs.Common.{sym}
use Rattle.deck_core.proofs.Flats.{whole_on}
use Rattle.deck_core.proofs.PhaseTicks.{exchanges}
use Rattle.deck_core.proofs.decks.flat_deck.FlatDeck.take_turn.Goals as goal

pub invariant_of-self : goal.invariant_of-self
invariant_of-self g c =
    let s = c.args.self.now in
    record {
      selected_is_one = s.selected_is_one;
      few = s.few;
      sound = (exchanges s.limit s.seats c.takes-taken.new.seats (g.B.Bus.told s.bus) s.selected.0 c.in-Take.seen c.takes-taken.result c.requires.phase (sym c.in-Take.ensures) c.takes-taken.ensures.moves c.takes-taken.ensures.found).sound s.sound s.selected_is_one;
    }

pub returns-clause-seat : goal.returns-clause-seat
returns-clause-seat g c =
    let s = c.args.self.now in
    (exchanges s.limit s.seats c.takes-taken.new.seats (g.B.Bus.told s.bus) s.selected.0 c.in-Take.seen c.takes-taken.result c.requires.phase (sym c.in-Take.ensures) c.takes-taken.ensures.moves c.takes-taken.ensures.found).seat s.idle

pub returns-clause-ticks : goal.returns-clause-ticks
returns-clause-ticks g c =
    let s = c.args.self.now in
    whole_on _ _ s.selected.0 (exchanges s.limit s.seats c.takes-taken.new.seats (g.B.Bus.told s.bus) s.selected.0 c.in-Take.seen c.takes-taken.result c.requires.phase (sym c.in-Take.ensures) c.takes-taken.ensures.moves c.takes-taken.ensures.found).ticks
