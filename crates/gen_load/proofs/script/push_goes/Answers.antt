use Rattle.gen_load.proofs.Plans.{none_yet, grown}
use Rattle.gen_load.proofs.script.push_goes.Goals as goal

pub loop-line-init : goal.loop-line-init
loop-line-init c = none_yet c.args.out.now.items

pub loop-line-preserved : goal.loop-line-preserved
loop-line-preserved c =
    grown c.args.out.now.items c.loop-line.out.items c.push_bytes.new.out.items c.loop-line.line c.loop-line.invariant c.in_ok-push_bytes.ensures.ok
