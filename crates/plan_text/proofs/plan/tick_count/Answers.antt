use Rattle.std.proofs.Common.{arith, length, ap}
use Rattle.plan_text.specs.Ticks.{Run}
use Rattle.plan_text.proofs.Counts.{run_more, no_more}
use Rattle.plan_text.proofs.plan.tick_count.Goals as goal

pub loop-run-preserved : goal.loop-run-preserved
loop-run-preserved c = record {
  fits = omega (arith, c.saturating_add-count.ensures);
  same = rw (c.saturating_add-count.ensures, c.saturating_mul.ensures) (run_more c.loop-run.count c.loop-run.run-index c.run.inside.times c.len-harts.result _ c.args.runs.now c.run-item.result c.loop-run-test.true c.run-item.is (ap (λ (r : Run). r.times) c.run.view_is) (omega (arith, c.len-harts.ensures, c.run.inside.harts.ok, ap (λ (r : Run). length r.harts) c.run.view_is)) c.loop-run.invariant.same);
}

pub returns : goal.returns
returns c = no_more c.loop-run.count c.loop-run.run-index _ c.args.runs.now (omega (arith, c.loop-run-test.false)) c.loop-run.invariant.fits c.loop-run.invariant.same
