use Rattle.std.proofs.Common.{◌≡◌, ◌<◌, ℕ, refl, sym, ◌∙◌, subst}
use Rattle.deck_core.specs.ticks.Configuration.{Configuration}
use Rattle.deck_core.specs.decks.Seat.{seat_of}
use Rattle.deck_core.specs.decks.Seats.{configuration_of}
use Rattle.hart_prog.specs.Program.{Stands}
use Rattle.hart_prog.proofs.Plans.{selected_stands, advanced_stand, one_runs}
use Rattle.hart_prog.proofs.plan.tick_of.Goals as goal

pub advance-requires-clause-stands : goal.advance-requires-clause-stands
advance-requires-clause-stands g c =
    let d = c.args.deck.now in
    let d2 = c.select.new.self in
    let before : Configuration = configuration_of d.limit d.seats (g.B.Bus.told d.bus) in
    let selected : Configuration = configuration_of d2.limit d2.seats (g.B.Bus.told d2.bus) in
    subst (λ x. Stands x (seat_of d2.selected.0 d2.idle selected)) (sym c.index-progs-h.is)
    (selected_stands before selected c.args.progs.now c.args.h.0 d2.selected.0 d2.idle c.index-progs-h.result c.requires.stand c.select.ensures.whole c.select.ensures.hart c.requires.hart)

pub returns-clause-stand : goal.returns-clause-stand
returns-clause-stand g c =
    let d = c.args.deck.now in
    let d2 = c.select.new.self in
    let d3 = c.advance.new.deck in
    advanced_stand g.B.Bus.Does (configuration_of d.limit d.seats (g.B.Bus.told d.bus)) (configuration_of d2.limit d2.seats (g.B.Bus.told d2.bus)) (configuration_of d3.limit d3.seats (g.B.Bus.told d3.bus)) d2.bus d3.bus
    c.args.progs.now c.args.h.0 d2.selected.0 d3.selected.0 d2.idle d3.idle c.advance.new.self c.advance.result c.requires.stand c.select.ensures.whole c.select.ensures.hart c.requires.hart c.advance.ensures.ticks

pub returns-clause-runs : goal.returns-clause-runs
returns-clause-runs g c =
    let d = c.args.deck.now in
    let d2 = c.select.new.self in
    let d3 = c.advance.new.deck in
    let before : Configuration = configuration_of d.limit d.seats (g.B.Bus.told d.bus) in
    let after : Configuration = configuration_of d3.limit d3.seats (g.B.Bus.told d3.bus) in
    let there : c.args.h.0 < before.told.harts = subst (λ n. c.args.h.0 < n) (sym c.requires.stand.each) c.requires.hart in (
      after,
      (
        refl,
        one_runs g.B.Bus.told g.B.Bus.Does before (configuration_of d2.limit d2.seats (g.B.Bus.told d2.bus)) after d.bus d2.bus d3.bus
            c.args.h.0 d2.selected.0 d3.selected.0 d2.idle d3.idle c.advance.new.self c.advance.result there c.select.ensures.whole c.select.ensures.bus c.select.ensures.hart refl c.advance.ensures.ticks,
      ),
    )
