use Rattle.plan_text.proofs.Grammar.{counts_its_ticks}
use Rattle.plan_text.proofs.laws.a_plan_counts_its_ticks.Goals as goal

pub returns : goal.returns
returns c = counts_its_ticks
