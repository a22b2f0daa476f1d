use Rattle.bus_plant.proofs.Stay.{keep_planted}
use Rattle.bus_plant.proofs.laws.planted_words_stay_text.Goals as goal

pub returns : goal.returns
returns c = keep_planted
