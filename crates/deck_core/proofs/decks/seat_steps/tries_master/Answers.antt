use Rattle.std.proofs.Common.{◌≡◌, ◌==◌, ◌+◌, suc, sym, ◌∙◌, ap, arith}
use Rattle.std.proofs.lemmas.Bool.{cond-true, eq-eqb}
use Rattle.deck_core.specs.ticks.Configuration.{Configuration, put}
use Rattle.deck_core.specs.decks.Seats.{configuration_of}
use Rattle.deck_core.specs.declared.plain.phase.Phase.TheVariants.{Own}
use Rattle.deck_core.proofs.decks.seat_steps.tries_master.Goals as goal

pub returns-then-seats-eq0-clause-moves : goal.returns-then-seats-eq0-clause-moves
returns-then-seats-eq0-clause-moves c = λ limit told.
    let old : Configuration = configuration_of limit c.args.seats.now told in
    let h = c.args.h.0 in
    let e : c.from.result + 1 ≡ suc h = omega (arith, c.from.ensures) in
    c.enters.ensures limit told
    ∙ (ap (λ m. record old { master = m; phase = put old.phase h Own }) e
    ∙ sym (cond-true (old.master == 0) (record old { master = suc h; phase = put old.phase h Own }) old (eq-eqb old.master 0 c.if-seats-eq0.true)))
