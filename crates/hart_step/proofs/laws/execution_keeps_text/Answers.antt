use Rattle.hart_step.proofs.Frame.{keeps_shape, keeps_faults, keeps_text}
use Rattle.hart_step.proofs.laws.execution_keeps_text.Goals as goal

pub returns : goal.returns
returns c = record { shape = keeps_shape; faults = keeps_faults; text = keeps_text }
