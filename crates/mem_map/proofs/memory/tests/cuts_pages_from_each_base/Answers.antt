use Rattle.std.proofs.Common.{inr, lit<, refl}
use Rattle.mem_map.proofs.memory.tests.cuts_pages_from_each_base.Goals as goal

pub put_page-requires-clause-page : goal.put_page-requires-clause-page
put_page-requires-clause-page g c = rw c.in_ok-map.ensures (lit< tt)

pub put_page-requires-clause-size : goal.put_page-requires-clause-size
put_page-requires-clause-size g c = rw c.in_ok-map.ensures refl

pub load-requires : goal.load-requires
load-requires g c = inr (inr (inr refl))

pub store-requires : goal.store-requires
store-requires g c = inr (inr (inr refl))
