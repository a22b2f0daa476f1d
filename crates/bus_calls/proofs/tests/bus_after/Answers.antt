use Rattle.std.proofs.Common.{sym, subst}
use Rattle.hart_prog.specs.Plan.{AllStand}
use Rattle.bus_calls.proofs.tests.bus_after.Goals as goal

pub loop-hart-init : goal.loop-hart-init
loop-hart-init g c =
    subst (λ w. AllStand w c.in_ok-progs.progs.items) (sym c.in_ok-deck.ensures.whole) (c.in_ok-progs.ensures (g.B.Bus.told c.args.bus) c.requires.two)
