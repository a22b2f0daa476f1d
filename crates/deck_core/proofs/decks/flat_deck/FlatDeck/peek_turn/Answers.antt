use Rattle.std.proofs.lemmas.Bool.{OnTrue_from, OnFalse_from}
use Rattle.deck_core.proofs.Flats.{whole_on}
use Rattle.deck_core.proofs.PhaseTicks.{loads}
use Rattle.deck_core.proofs.decks.flat_deck.FlatDeck.peek_turn.Goals as goal

pub invariant_of-self : goal.invariant_of-self
invariant_of-self g c =
    let s = c.args.self.now in
    record {
      selected_is_one = s.selected_is_one;
      few = s.few;
      sound = (loads s.limit s.seats c.peeks-free.new.seats (g.B.Bus.told s.bus) s.selected.0 c.phase_of-phase.result c.peeks-free.result c.phase_of-phase.ensures c.requires.phase c.requires.place c.peeks-free.ensures.moves c.peeks-free.ensures.found).sound s.sound s.selected_is_one;
    }

pub returns-clause-seen : goal.returns-clause-seen
returns-clause-seen g c =
    let s = c.args.self.now in
    OnTrue_from c.peeks-free.result _ (λ t. (s.seats.words.turn, (loads s.limit s.seats c.peeks-free.new.seats (g.B.Bus.told s.bus) s.selected.0 c.phase_of-phase.result c.peeks-free.result c.phase_of-phase.ensures c.requires.phase c.requires.place c.peeks-free.ensures.moves c.peeks-free.ensures.found).seen t s.idle))

pub returns-clause-busy : goal.returns-clause-busy
returns-clause-busy g c =
    let s = c.args.self.now in
    OnFalse_from c.peeks-free.result _ (λ t. (loads s.limit s.seats c.peeks-free.new.seats (g.B.Bus.told s.bus) s.selected.0 c.phase_of-phase.result c.peeks-free.result c.phase_of-phase.ensures c.requires.phase c.requires.place c.peeks-free.ensures.moves c.peeks-free.ensures.found).busy t s.idle)

pub returns-clause-ticks : goal.returns-clause-ticks
returns-clause-ticks g c =
    let s = c.args.self.now in
    whole_on _ _ s.selected.0 (loads s.limit s.seats c.peeks-free.new.seats (g.B.Bus.told s.bus) s.selected.0 c.phase_of-phase.result c.peeks-free.result c.phase_of-phase.ensures c.requires.phase c.requires.place c.peeks-free.ensures.moves c.peeks-free.ensures.found).ticks
