use Rattle.std.proofs.Common.{◌≡◌, true, false, refl, sym, ◌∙◌, ap, subst}
use Rattle.deck_core.specs.decks.Seat.{Seat, is_answer_of}
use Rattle.deck_core.specs.ticks.NextPhase.{GoesOn}
use Rattle.deck_core.proofs.Programs.{answers_go_on}
use Rattle.hart_prog.specs.Program.{is_at}
use Rattle.hart_prog.proofs.Ticks.{call_advances, peek_advances, peek_waits, take_advances}
use Rattle.hart_prog.proofs.prog.Prog.transact.Goals as goal

pub returns-then-peek_turn-clause-ticks : goal.returns-then-peek_turn-clause-ticks
returns-then-peek_turn-clause-ticks g c =
    let found = c.if-peek_turn.ensures in
    peek_advances g.D.Deck.Does c.args.self.now _ (g.D.Deck.seat c.args.deck.now) _ _ _ (g.D.Deck.whole c.args.deck.now) _ found.seen.0 c.requires.stands (g.met.D.Deck.agrees c.args.deck.now) c.requires.phase c.in-Peek.is
    (record { hart = refl; harts = refl; limit = refl; phase = refl; place = refl }) found.seen.1 found.bus found.ticks found.found

pub returns-else-peek_turn-clause-ticks : goal.returns-else-peek_turn-clause-ticks
returns-else-peek_turn-clause-ticks g c =
    let found = c.if-peek_turn.ensures in
    peek_waits g.D.Deck.Does c.args.self.now _ (g.D.Deck.seat c.args.deck.now) _ _ _ (g.D.Deck.whole c.args.deck.now) _ c.requires.stands (g.met.D.Deck.agrees c.args.deck.now) c.requires.phase c.in-Peek.is
    (record { hart = refl; harts = refl; limit = refl; phase = refl; place = c.in-Peek.is }) found.busy found.bus found.ticks found.found

pub returns-then-take_turn-clause-ticks : goal.returns-then-take_turn-clause-ticks
returns-then-take_turn-clause-ticks g c =
    take_advances g.D.Deck.Does c.args.self.now _ (g.D.Deck.seat c.args.deck.now) _ _ _ (g.D.Deck.whole c.args.deck.now) _ true c.requires.stands (g.met.D.Deck.agrees c.args.deck.now) c.requires.phase c.in-Take.is
    (record { hart = refl; harts = refl; limit = refl; phase = refl; place = refl }) c.if-take_turn.ensures.seat c.if-take_turn.ensures.bus c.if-take_turn.ensures.ticks c.if-take_turn.ensures.found

pub returns-else-take_turn-clause-ticks : goal.returns-else-take_turn-clause-ticks
returns-else-take_turn-clause-ticks g c =
    take_advances g.D.Deck.Does c.args.self.now _ (g.D.Deck.seat c.args.deck.now) _ _ _ (g.D.Deck.whole c.args.deck.now) _ false c.requires.stands (g.met.D.Deck.agrees c.args.deck.now) c.requires.phase c.in-Take.is
    (record { hart = refl; harts = refl; limit = refl; phase = refl; place = refl }) c.if-take_turn.ensures.seat c.if-take_turn.ensures.bus c.if-take_turn.ensures.ticks c.if-take_turn.ensures.found

pub invariant_of-self-in-Give-clause-in_range : goal.invariant_of-self-in-Give-clause-in_range
invariant_of-self-in-Give-clause-in_range g c =
    let p = c.args.self.now in
    subst (GoesOn p.limit p.harts p.hart.0) (sym c.after_answer-self.ensures)
    (answers_go_on p.limit p.harts p.hart.0 p.phase c.give-answer.result p.rounds p.one p.in_range)

pub returns-in-Give-clause-ticks : goal.returns-in-Give-clause-ticks
returns-in-Give-clause-ticks g c =
    let p = c.args.self.now in
    let s = c.requires.stands in
    let before : Seat = g.D.Deck.seat c.args.deck.now in
    let here = g.D.Deck.bus c.args.deck.now in
    let there = g.D.Deck.bus c.give-answer.new.self in
    let a = c.give-answer.result in
    call_advances g.D.Deck.Does p _ before _ here there _ _ a c.answered.result s c.requires.phase (ap (λ x. is_at x before.place) (sym c.in-Give.is) ∙ s.place)
    (record { hart = refl; harts = refl; limit = refl; phase = c.after_answer-self.ensures; place = refl }) c.give-answer.ensures.seat
    (subst (λ x. g.D.Deck.Does x here a there) c.act_of.ensures c.give-answer.ensures.does)
    (subst (λ x. is_answer_of x a ≡ true) c.act_of.ensures c.give-answer.ensures.answer)
    c.give-answer.ensures.ticks c.answered.ensures
