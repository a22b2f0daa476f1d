use Rattle.bus_plant.proofs.Lookups.{planted_places}
use Rattle.bus_plant.proofs.planted.Planted.planted.Goals as goal

pub returns-clause-places : goal.returns-clause-places
returns-clause-places c = rw (← c.self.view_is) (planted_places c.self.inside.places c.mask_of.result c.mask_of.ensures)
