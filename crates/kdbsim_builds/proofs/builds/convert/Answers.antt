use Rattle.std.proofs.Common.{[], ◌∷◌}
use Rattle.kdbsim_files.specs.Files.{elf_file}
use Rattle.kdbsim_builds.specs.Builds.{IsConverted}
use Rattle.kdbsim_builds.proofs.Storing.{converted_so, stored_by}
use Rattle.kdbsim_builds.proofs.builds.convert.Goals as goal

pub returns-in-Ok : goal.returns-in-Ok
returns-in-Ok g c =
    let files = g.F.Shelf.contents c.args.shelf.now in
    let pair = c.in-Ok.pair in
    record {
      cause = stored_by (IsConverted files c.args.executable.now c.args.image.now c.args.map.now) elf_file c.args.executable.now files (g.F.Shelf.contents c.elf_texts.new.shelf) (g.F.Shelf.contents c.store_both.new.shelf)
          (g.F.Shelf.faults c.args.shelf.now) (g.F.Shelf.faults c.elf_texts.new.shelf) (g.F.Shelf.faults c.store_both.new.shelf) ((c.args.image.now, c.as_slice.result.now) ∷ (c.args.map.now, c.as_slice-in-Ok.result.now) ∷ []) c.store_both.result
          c.in-Ok.ensures.kept c.in-Ok.ensures.count
          (converted_so files c.args.executable.now c.args.image.now c.args.map.now c.as_slice.result.now pair.image.items c.as_slice-in-Ok.result.now pair.map.items c.as_slice.ensures.value c.as_slice-in-Ok.ensures.value c.in-Ok.ensures.texts) c.store_both.ensures;
    }
