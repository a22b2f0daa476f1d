use Rattle.kdbsim_top.proofs.Exclusion.{right_files_end}
use Rattle.kdbsim_top.proofs.laws.right_files_end_the_run.Goals as goal

pub returns : goal.returns
returns c = right_files_end c.files_mean_one_thing.ensures
