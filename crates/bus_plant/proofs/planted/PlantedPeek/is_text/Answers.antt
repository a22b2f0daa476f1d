use Rattle.std.proofs.Common.{◌∷◌, ◌∙◌}
use Rattle.bus_plant.proofs.WithWords.{is_text-with_words}
use Rattle.bus_plant.proofs.planted.PlantedPeek.is_text.Goals as goal

pub returns : goal.returns
returns c = rw (← c.self.view_is) (c.is_text.ensures.value ∙ is_text-with_words c.self.inside.raw.memory (c.self.inside.step ∷ c.self.inside.places) c.args.addr)
