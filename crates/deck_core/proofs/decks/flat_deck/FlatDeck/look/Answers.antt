use Rattle.std.proofs.Common.{sym}
use Rattle.deck_core.proofs.Flats.{whole_on}
use Rattle.deck_core.proofs.PhaseTicks.{looks_at}
use Rattle.deck_core.proofs.decks.flat_deck.FlatDeck.look.Goals as goal

pub invariant_of-self : goal.invariant_of-self
invariant_of-self g c =
    let s = c.args.self.now in
    record {
      selected_is_one = s.selected_is_one;
      few = s.few;
      sound = (looks_at s.limit s.seats c.enters.new.seats (g.B.Bus.told s.bus) s.selected.0 c.harts.result c.in-Gather.looks c.args.k.0 c.is_marked-counts.result c.after_look-next.result (sym c.in-Gather.ensures) c.requires.next c.is_marked-counts.ensures c.harts.ensures c.after_look-next.ensures c.enters.ensures).sound s.sound s.selected_is_one;
    }

pub returns-clause-seat : goal.returns-clause-seat
returns-clause-seat g c =
    let s = c.args.self.now in
    (looks_at s.limit s.seats c.enters.new.seats (g.B.Bus.told s.bus) s.selected.0 c.harts.result c.in-Gather.looks c.args.k.0 c.is_marked-counts.result c.after_look-next.result (sym c.in-Gather.ensures) c.requires.next c.is_marked-counts.ensures c.harts.ensures c.after_look-next.ensures c.enters.ensures).seat s.idle

pub returns-clause-ticks : goal.returns-clause-ticks
returns-clause-ticks g c =
    let s = c.args.self.now in
    whole_on _ _ s.selected.0 (looks_at s.limit s.seats c.enters.new.seats (g.B.Bus.told s.bus) s.selected.0 c.harts.result c.in-Gather.looks c.args.k.0 c.is_marked-counts.result c.after_look-next.result (sym c.in-Gather.ensures) c.requires.next c.is_marked-counts.ensures c.harts.ensures c.after_look-next.ensures c.enters.ensures).ticks
