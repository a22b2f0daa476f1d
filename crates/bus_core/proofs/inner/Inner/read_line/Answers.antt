use Rattle.std.proofs.Common.{length, ap, arith}
use Rattle.atom_mach.proofs.Masks.{others_fit, others_have, not_late}
use Rattle.bus_core.proofs.Sessions.{seated_in, gathered_in, gathered_by}
use Rattle.bus_core.proofs.inner.Inner.read_line.Goals as goal

pub run_line-requires-clause-gathered : goal.run_line-requires-clause-gathered
run_line-requires-clause-gathered c =
    let core = c.args.self.now in
    let sits = seated_in core.session c.args.sitting core.contexts.len c.requires.session core.seated in
    others_fit (length c.as_mut_slice.result.now) c.harts.result core.contexts.len c.args.sitting.late c.all_but-gathered.result c.all_but-gathered.ensures
    (omega (arith, c.harts.ensures.number, core.contexts.ok.0)) (omega (arith, ap length c.as_mut_slice.ensures.value, core.contexts.ok.0)) sits.late_ones

pub run_line-requires-clause-current_before : goal.run_line-requires-clause-current_before
run_line-requires-clause-current_before c =
    let core = c.args.self.now in
    others_have c.harts.result c.args.sitting.late c.all_but-gathered.result core.kdb.current (omega (arith, core.current, c.harts.ensures.number, core.contexts.ok.0)) c.all_but-gathered.ensures
    (gathered_in core.session c.args.sitting core.kdb.current c.requires.session core.gathered)

pub run_line-requires-clause-entry : goal.run_line-requires-clause-entry
run_line-requires-clause-entry c =
    let core = c.args.self.now in
    let sits = seated_in core.session c.args.sitting core.contexts.len c.requires.session core.seated in
    others_have c.harts.result c.args.sitting.late c.all_but-gathered.result c.args.sitting.master.0 (omega (arith, sits.master, c.harts.ensures.number, core.contexts.ok.0)) c.all_but-gathered.ensures sits.on_time

pub invariant_of-self-in-Err-clause-gathered : goal.invariant_of-self-in-Err-clause-gathered
invariant_of-self-in-Err-clause-gathered c =
    let core = c.args.self.now in
    gathered_by core.session c.args.sitting c.run_line.new.kdb.current c.requires.session
    (not_late c.harts.result c.args.sitting.late c.all_but-gathered.result c.run_line.new.kdb.current (omega (arith, c.run_line.ensures.current_there, c.run_line.auto.ctxs, ap length c.as_mut_slice.ensures.value, core.contexts.ok.0, c.harts.ensures.number)) c.all_but-gathered.ensures c.run_line.ensures.current)

pub invariant_of-self-clause-gathered : goal.invariant_of-self-clause-gathered
invariant_of-self-clause-gathered c =
    let core = c.args.self.now in
    gathered_by core.session c.args.sitting c.run_line.new.kdb.current c.requires.session
    (not_late c.harts.result c.args.sitting.late c.all_but-gathered.result c.run_line.new.kdb.current (omega (arith, c.run_line.ensures.current_there, c.run_line.auto.ctxs, ap length c.as_mut_slice.ensures.value, core.contexts.ok.0, c.harts.ensures.number)) c.all_but-gathered.ensures c.run_line.ensures.current)
