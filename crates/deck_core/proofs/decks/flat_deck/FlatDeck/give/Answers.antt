use Rattle.std.proofs.Common.{◌<◌, ◌≤◌, sym, subst}
use Rattle.std.specs.Prelude.{IsTrue}
use Rattle.mach_base.specs.declared.limits.TheConstants.{MASK_HARTS}
use Rattle.deck_core.specs.contract.Told.{Told}
use Rattle.deck_core.specs.contract.Allowed.{is_allowed}
use Rattle.deck_core.specs.ticks.Configuration.{Configuration}
use Rattle.deck_core.specs.ticks.NextPhase.{CanGoOn}
use Rattle.deck_core.specs.decks.Seats.{configuration_of}
use Rattle.deck_core.proofs.Flats.{allowed_here, goes_on_here, acts_answer}
use Rattle.deck_core.proofs.PhaseTicks.{calls}
use Rattle.deck_core.proofs.decks.flat_deck.FlatDeck.give.Goals as goal

pub call-answer-requires : goal.call-answer-requires
call-answer-requires g c =
    let s = c.args.self.now in
    let b : Told = g.B.Bus.told s.bus in
    let old : Configuration = configuration_of s.limit s.seats b in
    subst (λ x. IsTrue (is_allowed x b)) (sym c.requires.own_call) (allowed_here old s.selected.0 s.sound s.selected_is_one c.requires.phase c.requires.place)

pub after_answer-next-requires-clause-in_range : goal.after_answer-next-requires-clause-in_range
after_answer-next-requires-clause-in_range g c =
    let s = c.args.self.now in
    let b : Told = g.B.Bus.told s.bus in
    let old : Configuration = configuration_of s.limit s.seats b in
    subst (λ n. CanGoOn n c.phase_of-phase.result) (sym c.harts-harts.ensures)
    (subst (λ p. CanGoOn b.harts p) (sym c.phase_of-phase.ensures) (goes_on_here old s.selected.0 s.sound))

pub invariant_of-self : goal.invariant_of-self
invariant_of-self g c =
    let s = c.args.self.now in
    let did = calls s.limit s.seats c.gives.new.seats (g.B.Bus.told s.bus) (g.B.Bus.told c.call-answer.new.bus) s.selected.0 c.call-answer.result c.args.act c.harts-harts.result c.mask-mask.result c.phase_of-phase.result c.after_answer-next.result c.requires.own_call c.requires.phase c.requires.place c.call-answer.ensures.acts c.harts-harts.ensures c.phase_of-phase.ensures c.after_answer-next.ensures c.mask-mask.ensures c.gives.ensures in
    record {
      selected_is_one = subst (λ n. s.selected.0 < n) (sym did.harts) s.selected_is_one;
      few = subst (λ n. n ≤ MASK_HARTS) (sym did.harts) s.few;
      sound = did.sound s.sound s.selected_is_one;
    }

pub returns-clause-answer : goal.returns-clause-answer
returns-clause-answer g c =
    acts_answer c.args.act (g.B.Bus.told c.args.self.now.bus) (g.B.Bus.told c.call-answer.new.bus) c.call-answer.result c.call-answer.ensures.acts.does

pub returns-clause-seat : goal.returns-clause-seat
returns-clause-seat g c =
    let s = c.args.self.now in
    (calls s.limit s.seats c.gives.new.seats (g.B.Bus.told s.bus) (g.B.Bus.told c.call-answer.new.bus) s.selected.0 c.call-answer.result c.args.act c.harts-harts.result c.mask-mask.result c.phase_of-phase.result c.after_answer-next.result c.requires.own_call c.requires.phase c.requires.place c.call-answer.ensures.acts c.harts-harts.ensures c.phase_of-phase.ensures c.after_answer-next.ensures c.mask-mask.ensures c.gives.ensures).seat s.idle c.is_idle-self.result c.is_idle-self.ensures

pub returns-clause-ticks : goal.returns-clause-ticks
returns-clause-ticks g c =
    let s = c.args.self.now in
    (calls s.limit s.seats c.gives.new.seats (g.B.Bus.told s.bus) (g.B.Bus.told c.call-answer.new.bus) s.selected.0 c.call-answer.result c.args.act c.harts-harts.result c.mask-mask.result c.phase_of-phase.result c.after_answer-next.result c.requires.own_call c.requires.phase c.requires.place c.call-answer.ensures.acts c.harts-harts.ensures c.phase_of-phase.ensures c.after_answer-next.ensures c.mask-mask.ensures c.gives.ensures).whole
