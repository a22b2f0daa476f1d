use Rattle.kdbsim_top.proofs.Journals.{legal_journals, one_bad_step}
use Rattle.kdbsim_top.proofs.laws.journals_end_in_one_way.Goals as goal

pub returns : goal.returns
returns c = record { legal = legal_journals c.files_mean_one_thing.ensures; first = one_bad_step c.files_mean_one_thing.ensures }
