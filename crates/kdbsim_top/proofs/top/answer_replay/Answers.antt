use Rattle.program_words.specs.Commands.{replay}
use Rattle.kdbsim_top.specs.Stages.{outcome}
use Rattle.kdbsim_top.proofs.Publishing.{printed, replay_failed}
use Rattle.kdbsim_top.proofs.top.answer_replay.Goals as goal

pub returns-in-Ok : goal.returns-in-Ok
returns-in-Ok g c =
    let names = c.args.names in
    record {
      cause = printed (replay names.image.now names.map.now names.script.now c.args.journal.now) (g.F.Shelf.contents c.args.shelf.now) (g.F.Shelf.contents c.replay_files.new.shelf) (g.F.Shelf.faults c.args.shelf.now) (g.F.Shelf.faults c.replay_files.new.shelf)
          (g.O.Sink.taken c.args.out.now) (g.O.Sink.taken c.print.new.out) (g.O.Sink.faults c.args.out.now) (g.O.Sink.faults c.print.new.out) (outcome c.in-Ok.told.ending c.in-Ok.told.transcript.items) c.print.result
          c.in-Ok.ensures.kept c.in-Ok.ensures.cause c.print.ensures;
    }

pub returns-in-Err : goal.returns-in-Err
returns-in-Err g c =
    let names = c.args.names in
    record {
      cause = replay_failed names.image.now names.map.now names.script.now c.args.journal.now (g.F.Shelf.contents c.args.shelf.now) (g.F.Shelf.contents c.replay_files.new.shelf) (g.F.Shelf.faults c.args.shelf.now) (g.F.Shelf.faults c.replay_files.new.shelf)
          (g.O.Sink.taken c.args.out.now) (g.O.Sink.faults c.args.out.now) c.in-Err.status c.in-Err.ensures.kept c.in-Err.ensures.cause;
    }
