use Rattle.std.proofs.Common.{refl, sym}
use Rattle.mem_map.proofs.Kept.{paged}
use Rattle.bus_plant.proofs.Raw.{planted-kept}
use Rattle.bus_plant.proofs.planted.Planted.raw.Goals as goal

pub returns : goal.returns
returns c = rw (← c.self.view_is) (paged _ _ _ _ (sym (planted-kept c.self.inside.raw.memory c.self.inside.places c.self.inside.step c.self.invariant.kept)) refl)
