use Rattle.std.proofs.Common.{ap}
use Rattle.program_words.specs.Views.{command_view}
use Rattle.kdbsim_top.specs.Causes.{outside}
use Rattle.kdbsim_top.proofs.Publishing.{assembled, converted, explained}
use Rattle.kdbsim_top.proofs.top.answer.Goals as goal

pub returns-in-Replay : goal.returns-in-Replay
returns-in-Replay g c = record {
  cause = explained (outside g.F.Shelf.contents g.F.Shelf.faults c.args.shelf.now c.answer_replay.new.shelf g.O.Sink.taken g.O.Sink.faults c.args.out.now c.answer_replay.new.out)
      c.answer_replay.result (ap command_view c.in-Replay.is) c.answer_replay.ensures.cause;
}

pub returns-in-Lockstep : goal.returns-in-Lockstep
returns-in-Lockstep g c = record {
  cause = explained (outside g.F.Shelf.contents g.F.Shelf.faults c.args.shelf.now c.answer_lockstep.new.shelf g.O.Sink.taken g.O.Sink.faults c.args.out.now c.answer_lockstep.new.out)
      c.answer_lockstep.result (ap command_view c.in-Lockstep.is) c.answer_lockstep.ensures.cause;
}

pub returns-in-Load : goal.returns-in-Load
returns-in-Load g c = record {
  cause = explained (outside g.F.Shelf.contents g.F.Shelf.faults c.args.shelf.now c.args.shelf.now g.O.Sink.taken g.O.Sink.faults c.args.out.now c.answer_load.new.out)
      c.answer_load.result (ap command_view c.in-Load.is) (c.answer_load.ensures (g.F.Shelf.contents c.args.shelf.now) (g.F.Shelf.faults c.args.shelf.now));
}

pub returns-in-Asm : goal.returns-in-Asm
returns-in-Asm g c = record {
  cause = explained (outside g.F.Shelf.contents g.F.Shelf.faults c.args.shelf.now c.assemble.new.shelf g.O.Sink.taken g.O.Sink.faults c.args.out.now c.args.out.now)
      c.assemble.result (ap command_view c.in-Asm.is)
      (assembled c.in-Asm.source.now c.in-Asm.image.now (g.F.Shelf.contents c.args.shelf.now) (g.F.Shelf.contents c.assemble.new.shelf) (g.F.Shelf.faults c.args.shelf.now) (g.F.Shelf.faults c.assemble.new.shelf)
      (g.O.Sink.taken c.args.out.now) (g.O.Sink.faults c.args.out.now) c.assemble.result c.assemble.ensures.cause);
}

pub returns-in-Elf : goal.returns-in-Elf
returns-in-Elf g c = record {
  cause = explained (outside g.F.Shelf.contents g.F.Shelf.faults c.args.shelf.now c.convert.new.shelf g.O.Sink.taken g.O.Sink.faults c.args.out.now c.args.out.now)
      c.convert.result (ap command_view c.in-Elf.is)
      (converted c.in-Elf.executable.now c.in-Elf.image.now c.in-Elf.map.now (g.F.Shelf.contents c.args.shelf.now) (g.F.Shelf.contents c.convert.new.shelf) (g.F.Shelf.faults c.args.shelf.now) (g.F.Shelf.faults c.convert.new.shelf)
      (g.O.Sink.taken c.args.out.now) (g.O.Sink.faults c.args.out.now) c.convert.result c.convert.ensures.cause);
}
