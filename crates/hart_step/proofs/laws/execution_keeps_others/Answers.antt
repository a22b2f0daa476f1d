use Rattle.hart_step.proofs.Frame.{keeps_others, contexts_agree, keeps_faults_of_others}
use Rattle.hart_step.proofs.laws.execution_keeps_others.Goals as goal

pub returns : goal.returns
returns c = record { contexts = keeps_others; agree = contexts_agree; faults = keeps_faults_of_others }
