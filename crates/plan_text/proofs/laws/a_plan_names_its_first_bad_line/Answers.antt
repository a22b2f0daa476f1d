use Rattle.plan_text.proofs.Grammar.{names_the_first_bad_line}
use Rattle.plan_text.proofs.laws.a_plan_names_its_first_bad_line.Goals as goal

pub returns : goal.returns
returns c = names_the_first_bad_line
