use Rattle.deck_core.proofs.Flats.{whole_on}
use Rattle.deck_core.proofs.PhaseTicks.{sees}
use Rattle.deck_core.proofs.decks.flat_deck.FlatDeck.see_gate.Goals as goal

pub invariant_of-self : goal.invariant_of-self
invariant_of-self g c =
    let s = c.args.self.now in
    record {
      selected_is_one = s.selected_is_one;
      few = s.few;
      sound = (sees s.limit s.seats c.enters.new.seats (g.B.Bus.told s.bus) s.selected.0 c.phase_of.result c.after_gate-next.result c.phase_of.ensures c.requires.phase c.after_gate-next.ensures c.enters.ensures).sound s.sound s.selected_is_one;
    }

pub returns-clause-seat : goal.returns-clause-seat
returns-clause-seat g c =
    let s = c.args.self.now in
    (sees s.limit s.seats c.enters.new.seats (g.B.Bus.told s.bus) s.selected.0 c.phase_of.result c.after_gate-next.result c.phase_of.ensures c.requires.phase c.after_gate-next.ensures c.enters.ensures).seat s.idle

pub returns-clause-ticks : goal.returns-clause-ticks
returns-clause-ticks g c =
    let s = c.args.self.now in
    whole_on _ _ s.selected.0 (sees s.limit s.seats c.enters.new.seats (g.B.Bus.told s.bus) s.selected.0 c.phase_of.result c.after_gate-next.result c.phase_of.ensures c.requires.phase c.after_gate-next.ensures c.enters.ensures).ticks
