use Rattle.hart_prog.proofs.Ticks.{finished_advances}
use Rattle.hart_prog.proofs.prog.Prog.advance.Goals as goal

pub returns-in-Finished-clause-ticks : goal.returns-in-Finished-clause-ticks
returns-in-Finished-clause-ticks g c =
    finished_advances g.D.Deck.Does c.args.self.now (g.D.Deck.seat c.args.deck.now) (g.D.Deck.bus c.args.deck.now) (g.D.Deck.whole c.args.deck.now) c.requires.stands (g.met.D.Deck.agrees c.args.deck.now) c.in-Finished.is
