use Rattle.kdbsim_top.proofs.Exclusion.{refusals_exclude}
use Rattle.kdbsim_top.proofs.laws.refusals_exclude_other_answers.Goals as goal

pub returns : goal.returns
returns c = refusals_exclude c.files_mean_one_thing.ensures c.refusals_are_one.ensures
