use Rattle.std.proofs.Common.{◌≡◌, List, Option, Some, length, sym, subst, rules}
use Rattle.mach_base.specs.declared.event.Hart.{Hart}
use Rattle.deck_core.specs.ticks.Configuration.{Configuration}
use Rattle.deck_core.specs.decks.Seats.{configuration_of}
use Rattle.plan_text.specs.Left.{left_in}
use Rattle.hart_prog.specs.Plan.{AllBelow}
use Rattle.bus_calls.specs.Bus.{told}
use Rattle.bus_calls.specs.Facts.{origin_on}
use Rattle.kdbsim_runs.proofs.Ticks.{one_less, below_rest}
use Rattle.kdbsim_runs.proofs.lockstep.make_ticks.Goals as goal

pub loop-hart-preserved : goal.loop-hart-preserved
loop-hart-preserved c =
    let inv = c.loop-hart.invariant in
    let left = left_in c.loop-hart.ticks in
    let rest = left_in c.next_tick.new.self in
    let first : Option Configuration = Some (configuration_of c.args.deck.now.limit c.args.deck.now.seats (told c.args.deck.now.bus)) in
    let whole : Option Configuration = Some (configuration_of c.loop-hart.deck.limit c.loop-hart.deck.seats (told c.loop-hart.deck.bus)) in
    let whole2 : Option Configuration = Some (configuration_of c.run_plan.new.deck.limit c.run_plan.new.deck.seats (told c.run_plan.new.deck.bus)) in
    let same : length c.run_plan.new.progs ≡ length c.loop-hart.progs = c.run_plan.auto.progs in
    record {
      stand = c.run_plan.ensures.stand;
      below = subst (λ n. AllBelow n rest) (sym same) (below_rest (length c.loop-hart.progs) left rest c.in-Some.hart c.in-Some.ensures inv.below).1;
      runs = one_less (left_in c.args.ticks) left rest c.in-Some.hart first whole whole2 c.args.deck.now.bus c.loop-hart.deck.bus c.run_plan.new.deck.bus c.loop-hart.progs c.run_plan.new.progs
          c.in-Some.ensures inv.stand inv.below c.run_plan.ensures.stand same c.run_plan.ensures.runs inv.runs;
      origin = origin_on c.args.deck.now.bus c.loop-hart.deck.bus c.run_plan.new.deck.bus inv.origin c.run_plan.ensures.origin;
    }
