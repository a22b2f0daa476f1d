use Rattle.jrn_text.proofs.Unique.{one_thing}
use Rattle.jrn_text.proofs.laws.texts_mean_one_thing.Goals as goal

pub returns : goal.returns
returns c = one_thing
