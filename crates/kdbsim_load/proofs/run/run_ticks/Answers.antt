use Rattle.std.proofs.Common.{◌≡◌, ◌∙◌, List, Option, Some, length, refl, sym, ap, subst}
use Rattle.mach_base.specs.declared.event.Hart.{Hart}
use Rattle.mach_base.specs.declared.limits.TheConstants.{MOST_STEPS}
use Rattle.deck_core.specs.ticks.Configuration.{Configuration, opening}
use Rattle.deck_core.specs.decks.Seats.{configuration_of}
use Rattle.hart_prog.specs.Plan.{AllBelow, AllStand, ProgramsStand, hart_numbers}
use Rattle.bus_core.specs.declared.outer.Core.{Core}
use Rattle.bus_core.specs.Core.{ComesFrom}
use Rattle.bus_calls.specs.declared.bus.CoreBus.{CoreBus}
use Rattle.bus_calls.specs.Bus.{told}
use Rattle.bus_calls.specs.Calls.{SameOrigin}
use Rattle.kdbsim_runs.proofs.Ticks.{ticked}
use Rattle.gen_load.specs.declared.numbers.TheConstants.{HARTS}
use Rattle.kdbsim_load.specs.declared.told.TheConstants.{ROUNDS}
use Rattle.kdbsim_load.specs.Load.{start_with}
use Rattle.kdbsim_load.proofs.Harts.{plan_below}
use Rattle.kdbsim_load.proofs.Numbers.{first_bus, first_origin}
use Rattle.kdbsim_load.proofs.run.run_ticks.Goals as goal

pub run_plan-requires-clause-stand : goal.run_plan-requires-clause-stand
run_plan-requires-clause-stand c =
    let begin = opening ROUNDS (told c.in_ok-bus.bus) in
    let stand : ProgramsStand begin c.in_ok-progs.progs.items = c.in_ok-progs.ensures (told c.in_ok-bus.bus) c.in_ok-bus.ensures.harts in
    subst (λ w. AllStand w c.as_mut_slice.result.now) (sym c.in_ok-deck.ensures.whole) (subst (ProgramsStand begin) (sym c.as_mut_slice.ensures.value) stand)

pub run_plan-requires-clause-harts : goal.run_plan-requires-clause-harts
run_plan-requires-clause-harts c =
    let stand : ProgramsStand (opening ROUNDS (told c.in_ok-bus.bus)) c.in_ok-progs.progs.items = c.in_ok-progs.ensures (told c.in_ok-bus.bus) c.in_ok-bus.ensures.harts in
    let many : HARTS ≡ length c.as_mut_slice.result.now = sym c.in_ok-bus.ensures.harts ∙ stand.each ∙ ap length (sym c.as_mut_slice.ensures.value) in
    let numbers : hart_numbers c.as_slice.result.now ≡ c.args.plan.now = ap hart_numbers c.as_slice.ensures.value ∙ c.in_ok-harts.ensures in
    subst (λ n. AllBelow n c.as_slice.result.now) many (plan_below HARTS c.as_slice.result.now c.args.plan.now numbers c.requires)

pub returns : goal.returns
returns c =
    let start = start_with c.args.image.now c.args.script in
    let first = c.in_ok-bus.bus in
    let deck = c.in_ok-deck.deck in
    let after = c.run_plan.new.deck in
    let whole : Option Configuration = Some (configuration_of deck.limit deck.seats (told deck.bus)) in
    let whole2 : Option Configuration = Some (configuration_of after.limit after.seats (told after.bus)) in
    let numbers : hart_numbers c.as_slice.result.now ≡ c.args.plan.now = ap hart_numbers c.as_slice.ensures.value ∙ c.in_ok-harts.ensures in
    let ran = ticked c.args.plan.now (hart_numbers c.as_slice.result.now) ROUNDS whole whole2 first deck.bus after.bus c.into_bus-bus.result c.run_plan.ensures.runs c.in_ok-deck.ensures.whole c.in_ok-deck.ensures.bus
    (sym c.into_bus-bus.ensures.value) numbers in
    let same : SameOrigin deck.bus after.bus = c.run_plan.ensures.origin in
    let begun : ComesFrom start first.core = first_origin c.args.image.now c.empty.result c.args.script first.core c.empty.ensures c.in_ok-bus.ensures.origin in
    let begun_here : ComesFrom start deck.bus.core = subst (λ (b : CoreBus). ComesFrom start b.core) (sym c.in_ok-deck.ensures.bus) begun in
    record {
      first = first;
      begins = first_bus c.args.image.now c.empty.result c.args.script first c.empty.ensures c.in_ok-bus.ensures.machine c.in_ok-bus.ensures.journal c.in_ok-bus.ensures.opening;
      last = ran.0;
      ran = ran.1;
      origin = subst (λ (b : CoreBus). ComesFrom start b.core) (sym c.into_bus-bus.ensures.value) (same.origin start begun_here);
      kept = ap (λ (core : Core). core.lost) (sym c.core.ensures) ∙ sym c.lost.ensures ∙ c.if-lost.false;
    }
