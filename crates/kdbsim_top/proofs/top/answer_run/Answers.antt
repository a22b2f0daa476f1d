use Rattle.program_words.specs.Commands.{run}
use Rattle.kdbsim_top.specs.Stages.{journaled}
use Rattle.kdbsim_top.proofs.Publishing.{published, failed}
use Rattle.kdbsim_top.proofs.top.answer_run.Goals as goal

pub returns-in-Ok : goal.returns-in-Ok
returns-in-Ok g c =
    let names = c.args.names in
    let r = c.in-Ok.recorded in
    record {
      cause = published (run names.image.now names.map.now names.script.now c.args.journal.now c.args.options) (g.F.Shelf.contents c.args.shelf.now) (g.F.Shelf.contents c.run_files.new.shelf) (g.F.Shelf.contents c.publish.new.shelf)
          (g.F.Shelf.faults c.args.shelf.now) (g.F.Shelf.faults c.run_files.new.shelf) (g.F.Shelf.faults c.publish.new.shelf) (g.O.Sink.taken c.args.out.now) (g.O.Sink.taken c.publish.new.out) (g.O.Sink.faults c.args.out.now) (g.O.Sink.faults c.publish.new.out)
          (journaled r.told.ending r.told.transcript.items c.args.journal.now r.journal.items) c.publish.result c.in-Ok.ensures.kept c.in-Ok.ensures.count (c.in-Ok.ensures.cause c.args.journal.now) c.publish.ensures;
    }

pub returns-in-Err : goal.returns-in-Err
returns-in-Err g c =
    let names = c.args.names in
    record {
      cause = failed (run names.image.now names.map.now names.script.now c.args.journal.now c.args.options) (g.F.Shelf.contents c.args.shelf.now) (g.F.Shelf.contents c.run_files.new.shelf) (g.F.Shelf.faults c.args.shelf.now) (g.F.Shelf.faults c.run_files.new.shelf)
          (g.O.Sink.taken c.args.out.now) (g.O.Sink.faults c.args.out.now) c.in-Err.status c.in-Err.ensures.kept c.in-Err.ensures.cause;
    }
