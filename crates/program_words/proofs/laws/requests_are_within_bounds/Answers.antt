use Rattle.program_words.proofs.Bounds.{requests_are_within}
use Rattle.program_words.proofs.laws.requests_are_within_bounds.Goals as goal

pub returns : goal.returns
returns c = requests_are_within
