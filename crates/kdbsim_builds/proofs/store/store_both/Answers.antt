use Rattle.std.proofs.Common.{[], ◌∷◌, ◌∙◌}
use Rattle.kdbsim_builds.proofs.Storing.{lost_first, lost_second}
use Rattle.kdbsim_builds.proofs.store.store_both.Goals as goal

pub returns-in-Err-write : goal.returns-in-Err-write
returns-in-Err-write g c = λ before le.
    lost_first (g.F.Shelf.contents c.args.shelf.now) (g.F.Shelf.contents c.reserve-2.new.self) (g.F.Shelf.contents c.write.new.self) c.args.name.now c.args.text.now ((c.args.second_name.now, c.args.second_text.now) ∷ []) before
    (g.F.Shelf.faults c.args.shelf.now) (g.F.Shelf.faults c.reserve-2.new.self) (g.F.Shelf.faults c.write.new.self) (c.in_default-reserve.ensures.kept ∙ c.in_default.ensures.kept) (c.in_default-reserve.ensures.count ∙ c.in_default.ensures.count) le
    c.in-Err-write.ensures.others c.in-Err-write.ensures.failed

pub returns-in-Err-write-2 : goal.returns-in-Err-write-2
returns-in-Err-write-2 g c = λ before le.
    lost_second (g.F.Shelf.contents c.args.shelf.now) (g.F.Shelf.contents c.reserve-2.new.self) (g.F.Shelf.contents c.write.new.self) (g.F.Shelf.contents c.write-2.new.self) c.args.name.now c.args.text.now c.args.second_name.now c.args.second_text.now before
    (g.F.Shelf.faults c.args.shelf.now) (g.F.Shelf.faults c.reserve-2.new.self) (g.F.Shelf.faults c.write.new.self) (g.F.Shelf.faults c.write-2.new.self) (c.in_default-reserve.ensures.kept ∙ c.in_default.ensures.kept) c.in_default-write.ensures.put
    (c.in_default-reserve.ensures.count ∙ c.in_default.ensures.count) c.in_default-write.ensures.count le c.in-Err-write-2.ensures.others c.in-Err-write-2.ensures.failed
