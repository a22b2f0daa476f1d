use Rattle.atom_mach.proofs.Frame.{instructions_leave, interrupts_leave, steps_leave}
use Rattle.atom_mach.proofs.laws.steps_leave_others.Goals as goal

pub returns : goal.returns
returns c = record { instructions = instructions_leave; interrupts = interrupts_leave; steps = steps_leave }
