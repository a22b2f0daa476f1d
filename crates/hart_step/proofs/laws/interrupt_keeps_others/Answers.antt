use Rattle.hart_step.proofs.Frame.{interrupt_keeps}
use Rattle.hart_step.proofs.laws.interrupt_keeps_others.Goals as goal

pub returns : goal.returns
returns c = interrupt_keeps
