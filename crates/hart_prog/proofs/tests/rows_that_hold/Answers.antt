use Rattle.std.proofs.Common.{sym, subst}
use Rattle.hart_prog.specs.Plan.{AllStand}
use Rattle.hart_prog.proofs.tests.rows_that_hold.Goals as goal

pub loop-i-init : goal.loop-i-init
loop-i-init g c =
    subst (λ w. AllStand w c.in_ok-progs.progs.items) (sym c.in_ok-deck.ensures.whole) (c.in_ok-progs.ensures (g.B.Bus.told c.args.bus) c.requires.two)
