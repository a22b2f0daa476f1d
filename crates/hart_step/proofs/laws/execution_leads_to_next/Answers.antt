use Rattle.hart_step.proofs.Leads.{execution_leads}
use Rattle.hart_step.proofs.laws.execution_leads_to_next.Goals as goal

pub returns : goal.returns
returns c = execution_leads
