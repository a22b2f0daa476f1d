use Rattle.plan_text.proofs.Grammar.{gives_its_runs}
use Rattle.plan_text.proofs.laws.a_plan_gives_its_runs.Goals as goal

pub returns : goal.returns
returns c = gives_its_runs
