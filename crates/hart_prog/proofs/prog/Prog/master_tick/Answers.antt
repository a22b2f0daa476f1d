use Rattle.std.proofs.Common.{◌≡◌, ℕ, refl, sym, ◌∙◌, ap, subst}
use Rattle.deck_core.specs.decks.Seat.{Seat, Found, in_phase, looks_in}
use Rattle.deck_core.specs.ticks.Phases.{is_finished}
use Rattle.deck_core.specs.ticks.NextPhase.{GoesOn, after_look}
use Rattle.deck_core.specs.declared.plain.phase.Phase.{Phase}
use Rattle.deck_core.specs.declared.plain.phase.Phase.TheVariants as phase
use Rattle.deck_core.specs.declared.plain.phase.Looks.{Looks}
use Rattle.deck_core.proofs.Programs.{looks_go_on}
use Rattle.hart_prog.specs.Progress.{finds_word}
use Rattle.hart_prog.proofs.Seats.{look_unfinished, shut_unfinished}
use Rattle.hart_prog.proofs.prog.Prog.master_tick.Goals as goal

pub returns-in-Gather-clause-moves : goal.returns-in-Gather-clause-moves
returns-in-Gather-clause-moves g c =
    let p = c.args.self in
    let s = c.requires.stands in
    let before : Seat = g.D.Deck.seat c.args.deck.now in
    let looks : Looks = c.in-Gather.looks in
    let counts = c.look-counts.result in
    let here : before.phase ≡ phase.Gather looks = sym s.phase ∙ c.in-Gather.is in
    let fits = subst (GoesOn p.limit p.harts p.hart.0) c.in-Gather.is p.in_range in
    let next : after_look before.limit before.harts before.hart (looks_in before.phase) counts ≡ after_look p.limit p.harts p.hart.0 looks counts =
    ap (λ q. after_look before.limit before.harts before.hart (looks_in q) counts) here
    ∙ (ap (λ n. after_look n before.harts before.hart looks counts) (sym s.limit)
    ∙ (ap (λ n. after_look p.limit n before.hart looks counts) (sym s.harts)
    ∙ ap (λ n. after_look p.limit p.harts n looks counts) (sym s.hart))) in
    record {
      seat = c.look-counts.ensures.seat ∙ ap (λ q. in_phase q before) (next ∙ sym c.after_look-next.ensures);
      bus = c.look-counts.ensures.bus;
      ticks = c.look-counts.ensures.ticks;
      saw = subst (λ q. Found counts (finds_word q) (g.D.Deck.whole c.args.deck.now)) (sym here) c.look-counts.ensures.found;
      range = subst (GoesOn p.limit p.harts p.hart.0) (sym c.after_look-next.ensures) (looks_go_on p.limit p.harts p.hart.0 looks counts fits.0 fits.1);
    }

pub returns-in-Gather-clause-unfinished : goal.returns-in-Gather-clause-unfinished
returns-in-Gather-clause-unfinished g c =
    ap is_finished c.after_look-next.ensures ∙ look_unfinished c.args.self.limit c.args.self.harts c.args.self.hart.0 c.in-Gather.looks c.look-counts.result

pub returns-in-Shut-clause-unfinished : goal.returns-in-Shut-clause-unfinished
returns-in-Shut-clause-unfinished g c = ap is_finished c.after_shut.ensures ∙ shut_unfinished c.args.self.harts c.args.self.hart.0
