use Rattle.std.proofs.Common.{◌∙◌, sym}
use Rattle.run_join.proofs.run.bus_at_end.Goals as goal

pub returns-clause-ended : goal.returns-clause-ended
returns-clause-ended g c = sym (g.met.B.Bus.over_is c.finish.result) ∙ c.finish.ensures.over
