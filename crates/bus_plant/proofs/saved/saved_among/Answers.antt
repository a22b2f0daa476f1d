use Rattle.std.proofs.Common.{sym, ◌∙◌}
use Rattle.bus_plant.proofs.Lookups.{saved_word-found, saved_word-further, saved_word-past}
use Rattle.bus_plant.proofs.saved.saved_among.Goals as goal

pub returns-in-Some : goal.returns-in-Some
returns-in-Some c =
    sym (c.loop-place.invariant ∙ saved_word-found c.args.places.now c.loop-place.place-index c.args.addr c.in-Some.word _ c.loop-place-test.true (sym c.word_for.ensures ∙ c.in-Some.is))

pub loop-place-preserved : goal.loop-place-preserved
loop-place-preserved c =
    c.loop-place.invariant ∙ saved_word-further c.args.places.now c.loop-place.place-index c.args.addr _ c.loop-place-test.true (sym c.word_for.ensures ∙ c.in_default.is)

pub returns : goal.returns
returns c = sym (c.loop-place.invariant ∙ saved_word-past c.args.places.now c.loop-place.place-index c.args.addr c.loop-place-test.false)
