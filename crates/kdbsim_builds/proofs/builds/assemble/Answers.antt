use Rattle.std.proofs.Common.{[], ◌∷◌}
use Rattle.kdbsim_files.specs.Files.{source_file}
use Rattle.kdbsim_builds.specs.Builds.{IsAssembled}
use Rattle.kdbsim_builds.proofs.Storing.{assembled_so, stored_by}
use Rattle.kdbsim_builds.proofs.builds.assemble.Goals as goal

pub returns-in-Ok : goal.returns-in-Ok
returns-in-Ok g c =
    let files = g.F.Shelf.contents c.args.shelf.now in
    record {
      cause = stored_by (IsAssembled files c.args.source.now c.args.image.now) source_file c.args.source.now files (g.F.Shelf.contents c.source_text.new.shelf) (g.F.Shelf.contents c.store.new.shelf)
          (g.F.Shelf.faults c.args.shelf.now) (g.F.Shelf.faults c.source_text.new.shelf) (g.F.Shelf.faults c.store.new.shelf) ((c.args.image.now, c.as_slice.result.now) ∷ []) c.store.result c.in-Ok.ensures.kept c.in-Ok.ensures.count
          (assembled_so files c.args.source.now c.args.image.now c.as_slice.result.now c.in-Ok.text.items c.as_slice.ensures.value c.in-Ok.ensures.text) c.store.ensures;
    }
