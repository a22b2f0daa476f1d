use Rattle.std.proofs.Common.{[]}
use Rattle.kdbsim_builds.proofs.Storing.{lost_first}
use Rattle.kdbsim_builds.proofs.store.store.Goals as goal

pub returns-in-Err-write : goal.returns-in-Err-write
returns-in-Err-write g c = λ before le.
    lost_first (g.F.Shelf.contents c.args.shelf.now) (g.F.Shelf.contents c.reserve.new.self) (g.F.Shelf.contents c.write.new.self) c.args.name.now c.args.text.now [] before
    (g.F.Shelf.faults c.args.shelf.now) (g.F.Shelf.faults c.reserve.new.self) (g.F.Shelf.faults c.write.new.self) c.in_default.ensures.kept c.in_default.ensures.count le c.in-Err-write.ensures.others c.in-Err-write.ensures.failed
