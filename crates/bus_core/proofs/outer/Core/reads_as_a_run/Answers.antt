use Rattle.bus_core.proofs.Origins.{is_run}
use Rattle.bus_core.proofs.outer.Core.reads_as_a_run.Goals as goal

pub returns-clause-origin : goal.returns-clause-origin
returns-clause-origin c = c.args.self.now.made

pub returns-clause-run : goal.returns-clause-run
returns-clause-run c = λ o from. is_run c.legal_lists_are_runs.ensures.runs c.legal_lists_are_runs.ensures.transcripts o c.args.self.now from
