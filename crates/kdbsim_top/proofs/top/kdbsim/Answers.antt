use Rattle.std.proofs.Common.{◌≡◌, ◌∙◌, Some, refl, ap, map}
use Rattle.std.specs.String.{string_bytes}
use Rattle.program_words.specs.Commands.{command_of, run}
use Rattle.program_words.specs.Views.{command_view}
use Rattle.kdbsim_top.specs.Causes.{outside}
use Rattle.kdbsim_top.proofs.Publishing.{answered, memory_answer}
use Rattle.kdbsim_top.proofs.top.kdbsim.Goals as goal

pub returns-in-Ok-Run-clause-cause : goal.returns-in-Ok-Run-clause-cause
returns-in-Ok-Run-clause-cause g c =
    answered
    (outside g.F.Shelf.contents g.F.Shelf.faults c.args.shelf.now c.answer_run.new.shelf g.O.Sink.taken g.O.Sink.faults c.args.out.now c.answer_run.new.out)
    (command_of (map string_bytes c.args.words.now)) (run c.in-Ok-Run.image.now c.in-Ok-Run.map.now c.in-Ok-Run.script.now c.in-Ok-Run.journal.now c.in-Ok-Run.options) c.answer_run.result
    (c.in-Ok-Run.ensures.ok ∙ ap (λ r. Some (command_view r)) c.in-Ok-Run.field-0-is) c.answer_run.ensures.cause

pub returns-in-Err-OutOfMemory-clause-cause : goal.returns-in-Err-OutOfMemory-clause-cause
returns-in-Err-OutOfMemory-clause-cause g c =
    memory_answer (outside g.F.Shelf.contents g.F.Shelf.faults c.args.shelf.now c.args.shelf.now g.O.Sink.taken g.O.Sink.faults c.args.out.now c.args.out.now)
    (command_of (map string_bytes c.args.words.now)) (record { files = refl; taken = refl })
