use Rattle.kdbsim_files.proofs.Meaning.{one_value, not_both}
use Rattle.kdbsim_files.proofs.laws.files_mean_one_thing.Goals as goal

pub returns : goal.returns
returns c = record { value = one_value c.texts_mean_one_thing.ensures; right = not_both c.texts_mean_one_thing.ensures }
