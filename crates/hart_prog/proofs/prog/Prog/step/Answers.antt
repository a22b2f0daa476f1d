use Rattle.std.proofs.Common.{refl}
use Rattle.hart_prog.proofs.Ticks.{step_advances}
use Rattle.hart_prog.proofs.prog.Prog.step.Goals as goal

pub returns-clause-ticks : goal.returns-clause-ticks
returns-clause-ticks g c =
    step_advances g.D.Deck.Does c.args.self.now _ (g.D.Deck.seat c.args.deck.now) _ _ _ (g.D.Deck.whole c.args.deck.now) _ c.word_tick-next.result.0 c.word_tick-next.result.1 c.word_progress.result
    c.requires.stands (g.met.D.Deck.agrees c.args.deck.now) c.requires.quiet c.requires.unfinished c.word_tick-next.ensures.moves c.word_tick-next.ensures.unfinished
    (record { hart = refl; harts = refl; limit = refl; phase = refl; place = refl }) c.word_progress.ensures
