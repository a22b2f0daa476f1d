use Rattle.kdbsim_files.proofs.Meaning.{one_failure}
use Rattle.kdbsim_files.proofs.laws.refusals_are_one.Goals as goal

pub returns : goal.returns
returns c = one_failure c.texts_mean_one_thing.ensures
