use Rattle.std.proofs.Common.{sym}
use Rattle.kdb_bt.proofs.Chain.{ends_without_frame, ends_at_zero, ends_below, goes_on, ends_at_limit}
use Rattle.kdb_bt.proofs.show.push_callers.Goals as goal

pub returns-in_default : goal.returns-in_default
returns-in_default g c = ends_without_frame (g.P.Peek.memory c.args.mem.now) c.args.names.now c.loop-number.number c.loop-number.pointer c.loop-number.out.items _ c.loop-number-test.true (sym c.in_default.ensures) c.loop-number.invariant

pub returns-then-frame-eq0 : goal.returns-then-frame-eq0
returns-then-frame-eq0 g c = ends_at_zero (g.P.Peek.memory c.args.mem.now) c.args.names.now c.loop-number.number c.loop-number.pointer c.in-Some.frame c.loop-number.out.items _ c.loop-number-test.true c.in-Some.ensures c.if-frame-eq0.true c.loop-number.invariant

pub returns-then-frame-pointer : goal.returns-then-frame-pointer
returns-then-frame-pointer g c = ends_below (g.P.Peek.memory c.args.mem.now) c.args.names.now c.loop-number.number c.loop-number.pointer c.in-Some.frame c.loop-number.out.items c.push_frame.new.out.items _ c.loop-number-test.true c.in-Some.ensures c.if-frame-eq0.false c.if-frame-pointer.true c.in_ok-push_frame.ensures c.loop-number.invariant

pub loop-number-preserved : goal.loop-number-preserved
loop-number-preserved g c = goes_on (g.P.Peek.memory c.args.mem.now) c.args.names.now c.loop-number.number c.loop-number.pointer c.in-Some.frame c.loop-number.out.items c.push_frame.new.out.items _ c.loop-number-test.true c.in-Some.ensures c.if-frame-eq0.false c.if-frame-pointer.false c.in_ok-push_frame.ensures c.loop-number.invariant

pub returns : goal.returns
returns g c = ends_at_limit (g.P.Peek.memory c.args.mem.now) c.args.names.now c.loop-number.number c.loop-number.pointer c.loop-number.out.items _ c.loop-number-test.false c.loop-number.invariant
