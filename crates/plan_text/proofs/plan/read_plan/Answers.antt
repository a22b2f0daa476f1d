use Rattle.std.proofs.Common.{subst}
use Rattle.std.specs.Prelude.{Ok, MatchResult}
use Rattle.std.proofs.Common.{◌≡◌}
use Rattle.mach_base.specs.Lines.{lines_of}
use Rattle.plan_text.specs.Reading.{IsFault, all_lines}
use Rattle.plan_text.proofs.Grammar.{plan_below}
use Rattle.plan_text.proofs.plan.read_plan.Goals as goal

pub returns-clause-below : goal.returns-clause-below
returns-clause-below c =
    let lines = lines_of c.args.text.now in
    plan_below c.args.harts lines c.in_ok-runs.runs.items (subst (λ r. MatchResult r (λ runs. all_lines c.args.harts lines ≡ Ok runs.items) (λ fault. IsFault fault (all_lines c.args.harts lines))) c.in_ok-runs.was c.read_runs.ensures)
