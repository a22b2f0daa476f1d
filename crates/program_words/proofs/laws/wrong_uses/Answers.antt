use Rattle.program_words.proofs.WrongUse.{wrong_uses}
use Rattle.program_words.proofs.laws.wrong_uses.Goals as goal

pub returns : goal.returns
returns c = wrong_uses
