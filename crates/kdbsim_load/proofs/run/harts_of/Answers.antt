use Rattle.std.proofs.Common.{◌<◌, length, get_or, refl, arith}
use Rattle.kdbsim_load.proofs.Harts.{harts_on}
use Rattle.kdbsim_load.proofs.run.harts_of.Goals as goal

pub loop-number-preserved : goal.loop-number-preserved
loop-number-preserved c =
    let plan = c.args.plan.now in
    let index = c.loop-number.number-index in
    let lt : index < length plan = omega (arith, c.loop-number-test.true) in
    harts_on plan index c.loop-number.harts.items c.push.new.self.items (record { 0 = get_or plan index 0 }) c.loop-number.invariant c.in_ok-push.ensures.items refl lt
