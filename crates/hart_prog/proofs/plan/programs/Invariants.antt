use Rattle.hart_prog.proofs.Plans.{ProgramsMade}
use Rattle.hart_prog.proofs.plan.programs.Given as goal

abbrev pub invariant-loop-h : goal.invariant-loop-h
invariant-loop-h l = ProgramsMade l.h l.fn.harts l.fn.limit l.progs.items
