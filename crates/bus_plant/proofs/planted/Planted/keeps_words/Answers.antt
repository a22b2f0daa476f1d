use Rattle.bus_plant.proofs.Raw.{kept-planted}
use Rattle.bus_plant.proofs.planted.Planted.keeps_words.Goals as goal

pub returns : goal.returns
returns c = rw (← c.self.view_is) (kept-planted c.self.inside.raw.memory c.self.inside.places c.self.inside.step c.self.invariant.count c.self.invariant.kept)
