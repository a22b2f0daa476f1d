use Rattle.std.proofs.Common.{◌∙◌}
use Rattle.hart_ctx.proofs.InPlace.{write_next, all_done}
use Rattle.bus_plant.specs.Saved.{after_poke}
use Rattle.bus_plant.proofs.saved.poke_places.Goals as goal

pub loop-place-preserved : goal.loop-place-preserved
loop-place-preserved c =
    write_next (after_poke c.args.addr c.args.byte) c.args.places.now c.loop-place.places c.loop-place.place-index c.poke_saved.new.slot _ c.loop-place.invariant c.poke_saved.ensures c.loop-place-test.true

pub returns : goal.returns
returns c = c.loop-place.invariant ∙ all_done (after_poke c.args.addr c.args.byte) c.args.places.now c.loop-place.place-index c.loop-place-test.false
