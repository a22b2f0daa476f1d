use Rattle.std.proofs.Common.{◌==◌, suc, sym, ◌∙◌, ap}
use Rattle.std.proofs.lemmas.Bool.{cond-true, cond-false, eq-eqb, ne_eqb}
use Rattle.deck_core.specs.plain.Words.{turn_word, mask_of}
use Rattle.deck_core.specs.ticks.Configuration.{Configuration, put}
use Rattle.deck_core.specs.decks.Seats.{configuration_of}
use Rattle.deck_core.specs.ticks.Tick.{goes}
use Rattle.deck_core.specs.declared.plain.phase.Place.TheVariants.{Peek, Give}
use Rattle.deck_core.proofs.decks.seat_steps.takes.Goals as goal

pub returns-then-seats-seen-clause-moves : goal.returns-then-seats-seen-clause-moves
returns-then-seats-seen-clause-moves c = λ limit told.
    let old : Configuration = configuration_of limit c.args.seats.now told in
    let h = c.args.h.0 in
    let taken : Configuration = record old { turn = turn_word (mask_of old.turn) (suc h); place = put old.place h Give } in
    c.goes.ensures limit told
    ∙ (ap (λ t. record old { turn = t; place = put old.place h Give }) (c.turn_word-seats.ensures ∙ ap (λ m. turn_word m (suc h)) c.mask_of.ensures.value)
    ∙ sym (cond-true (old.turn == c.args.seen) taken (goes h Peek old) (eq-eqb old.turn c.args.seen c.if-seats-seen.true)))

pub returns-else-seats-seen-clause-moves : goal.returns-else-seats-seen-clause-moves
returns-else-seats-seen-clause-moves c = λ limit told.
    let old : Configuration = configuration_of limit c.args.seats.now told in
    let h = c.args.h.0 in
    let taken : Configuration = record old { turn = turn_word (mask_of old.turn) (suc h); place = put old.place h Give } in
    c.goes-else-seats-seen.ensures limit told
    ∙ sym (cond-false (old.turn == c.args.seen) taken (goes h Peek old) (ne_eqb old.turn c.args.seen c.if-seats-seen.false))
