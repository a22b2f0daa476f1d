use Rattle.bus_plant.proofs.Lookups.{planted_mask-more}
use Rattle.bus_plant.proofs.saved.mask_of.Goals as goal

pub loop-k-preserved : goal.loop-k-preserved
loop-k-preserved c = planted_mask-more c.args.places.now c.loop-k.k c.loop-k.mask c.mask_with_place-mask.result _ c.loop-k-test.true c.loop-k.invariant c.mask_with_place-mask.ensures
