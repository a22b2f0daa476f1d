use Rattle.std.proofs.Common.{◌≡◌, ◌∙◌, List, Option, Some, length, refl, sym, ap, subst}
use Rattle.deck_core.specs.ticks.Configuration.{Configuration, opening}
use Rattle.deck_core.specs.decks.Seats.{configuration_of}
use Rattle.plan_text.specs.Left.{left_in}
use Rattle.plan_text.specs.Ticks.{ticks_of}
use Rattle.hart_prog.specs.Plan.{AllBelow, AllStand, ProgramsStand, hart_numbers}
use Rattle.bus_calls.specs.Bus.{told}
use Rattle.bus_core.specs.declared.outer.Core.{Core}
use Rattle.kdbsim_runs.proofs.Ticks.{all_below, ticked}
use Rattle.kdbsim_runs.proofs.lockstep.run_plan_of.Goals as goal

pub make_ticks-requires-clause-stand : goal.make_ticks-requires-clause-stand
make_ticks-requires-clause-stand c =
    let begin = opening c.args.pace.rounds (told c.in_ok-bus.bus) in
    let stand : ProgramsStand begin c.in_ok-progs.progs.items = c.in_ok-progs.ensures (told c.in_ok-bus.bus) c.in_ok-bus.ensures.harts in
    subst (λ w. AllStand w c.as_mut_slice.result.now) (sym c.in_ok-deck.ensures.whole) (subst (ProgramsStand begin) (sym c.as_mut_slice.ensures.value) stand)

pub make_ticks-requires-clause-below : goal.make_ticks-requires-clause-below
make_ticks-requires-clause-below c =
    let stand : ProgramsStand (opening c.args.pace.rounds (told c.in_ok-bus.bus)) c.in_ok-progs.progs.items = c.in_ok-progs.ensures (told c.in_ok-bus.bus) c.in_ok-bus.ensures.harts in
    let many : c.args.pace.harts ≡ length c.as_mut_slice.result.now = sym c.in_ok-bus.ensures.harts ∙ stand.each ∙ ap length (sym c.as_mut_slice.ensures.value) in
    subst (λ n. AllBelow n (left_in c.ticks.result)) many (subst (AllBelow c.args.pace.harts) (sym c.ticks.ensures) (all_below c.args.pace.harts (ticks_of c.args.plan.now) c.requires.below))

pub returns : goal.returns
returns c =
    let deck = c.in_ok-deck.deck in
    let whole : Option Configuration = Some (configuration_of deck.limit deck.seats (told deck.bus)) in
    let after = c.make_ticks.new.deck in
    let whole2 : Option Configuration = Some (configuration_of after.limit after.seats (told after.bus)) in
    let ran = ticked (hart_numbers (ticks_of c.args.plan.now)) (hart_numbers (left_in c.ticks.result)) c.args.pace.rounds whole whole2 c.in_ok-bus.bus deck.bus after.bus c.into_bus-bus.result c.make_ticks.ensures.runs c.in_ok-deck.ensures.whole c.in_ok-deck.ensures.bus
    (sym c.into_bus-bus.ensures.value) (ap hart_numbers c.ticks.ensures) in
    record {
      first = c.in_ok-bus.bus;
      begins = record { machine = c.in_ok-bus.ensures.machine; journal = c.in_ok-bus.ensures.journal; opening = c.in_ok-bus.ensures.opening };
      last = ran.0;
      ran = ran.1;
      origin = rw (c.into_bus-bus.ensures.value) (c.make_ticks.ensures.origin.origin (record { image = c.args.image.now; symbols = c.args.names; lines = c.args.script; harts = c.args.pace.harts; limit = c.args.pace.limit }) (rw (c.in_ok-deck.ensures.bus) c.in_ok-bus.ensures.origin));
      kept = ap (λ (core : Core). core.lost) (sym c.core.ensures) ∙ sym c.lost.ensures ∙ c.if-lost.false;
    }
