use Rattle.std.proofs.Common.{length, ap, arith}
use Rattle.atom_mach.proofs.Masks.{others_fit, others_have, not_late}
use Rattle.atom_mach.proofs.Allowed.{gathered_in}
use Rattle.atom_mach.proofs.machine.Core.read_line.Goals as goal

pub run_line-requires-clause-gathered : goal.run_line-requires-clause-gathered
run_line-requires-clause-gathered c =
    let core = c.args.self.now in
    others_fit (length c.as_mut_slice.result.now) c.harts.result core.contexts.len c.args.late c.all_but-gathered.result c.all_but-gathered.ensures
    (omega (arith, c.harts.ensures.number, core.contexts.ok.0)) (omega (arith, ap length c.as_mut_slice.ensures.value, core.contexts.ok.0)) c.requires.sitting.late_ones

pub run_line-requires-clause-current_before : goal.run_line-requires-clause-current_before
run_line-requires-clause-current_before c =
    let core = c.args.self.now in
    others_have c.harts.result c.args.late c.all_but-gathered.result core.kdb.current (omega (arith, core.current, c.harts.ensures.number, core.contexts.ok.0)) c.all_but-gathered.ensures c.requires.gathered

pub run_line-requires-clause-entry : goal.run_line-requires-clause-entry
run_line-requires-clause-entry c =
    let core = c.args.self.now in
    others_have c.harts.result c.args.late c.all_but-gathered.result c.args.master.0 (omega (arith, c.requires.sitting.master, c.harts.ensures.number, core.contexts.ok.0)) c.all_but-gathered.ensures c.requires.sitting.on_time

pub invariant_of-self-in-Err-clause-gathered : goal.invariant_of-self-in-Err-clause-gathered
invariant_of-self-in-Err-clause-gathered c =
    let core = c.args.self.now in
    gathered_in core.mode c.args.late c.run_line.new.kdb.current c.requires.reads
    (not_late c.harts.result c.args.late c.all_but-gathered.result c.run_line.new.kdb.current (omega (arith, c.run_line.ensures.current_there, c.run_line.auto.ctxs, ap length c.as_mut_slice.ensures.value, core.contexts.ok.0, c.harts.ensures.number)) c.all_but-gathered.ensures c.run_line.ensures.current)

pub invariant_of-self-clause-gathered : goal.invariant_of-self-clause-gathered
invariant_of-self-clause-gathered c =
    let core = c.args.self.now in
    gathered_in core.mode c.args.late c.run_line.new.kdb.current c.requires.reads
    (not_late c.harts.result c.args.late c.all_but-gathered.result c.run_line.new.kdb.current (omega (arith, c.run_line.ensures.current_there, c.run_line.auto.ctxs, ap length c.as_mut_slice.ensures.value, core.contexts.ok.0, c.harts.ensures.number)) c.all_but-gathered.ensures c.run_line.ensures.current)

pub returns-in-Ok-clause-gathered : goal.returns-in-Ok-clause-gathered
returns-in-Ok-clause-gathered c =
    let core = c.args.self.now in
    not_late c.harts.result c.args.late c.all_but-gathered.result c.run_line.new.kdb.current (omega (arith, c.run_line.ensures.current_there, c.run_line.auto.ctxs, ap length c.as_mut_slice.ensures.value, core.contexts.ok.0, c.harts.ensures.number)) c.all_but-gathered.ensures c.run_line.ensures.current
