use Rattle.std.proofs.Common.{refl}
use Rattle.program_words.specs.Commands.{load}
use Rattle.kdbsim_top.specs.Stages.{outcome}
use Rattle.kdbsim_top.proofs.Publishing.{printed, lacking}
use Rattle.kdbsim_top.proofs.top.answer_load.Goals as goal

pub returns-in-Ok : goal.returns-in-Ok
returns-in-Ok g c = λ files count.
    printed (load c.args.number) files files count count (g.O.Sink.taken c.args.out.now) (g.O.Sink.taken c.print.new.out) (g.O.Sink.faults c.args.out.now) (g.O.Sink.faults c.print.new.out)
    (outcome c.in-Ok.told.ending c.in-Ok.told.transcript.items) c.print.result refl c.in-Ok.ensures c.print.ensures

pub returns-in-Err : goal.returns-in-Err
returns-in-Err g c = λ files count. lacking c.args.number files count (g.O.Sink.taken c.args.out.now) (g.O.Sink.faults c.args.out.now)
