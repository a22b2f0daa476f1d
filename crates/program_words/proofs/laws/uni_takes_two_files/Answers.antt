use Rattle.program_words.proofs.WrongUse.{uni_takes_two_files}
use Rattle.program_words.proofs.laws.uni_takes_two_files.Goals as goal

pub returns : goal.returns
returns c = uni_takes_two_files
