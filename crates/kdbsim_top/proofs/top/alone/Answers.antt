use Rattle.std.proofs.Common.{refl, map}
use Rattle.std.specs.String.{string_bytes}
use Rattle.program_words.specs.Commands.{command_of}
use Rattle.kdbsim_top.specs.Causes.{outside}
use Rattle.kdbsim_top.proofs.Publishing.{memory_alone}
use Rattle.kdbsim_top.proofs.top.alone.Goals as goal

pub returns-in-Err-OutOfMemory : goal.returns-in-Err-OutOfMemory
returns-in-Err-OutOfMemory g c =
    memory_alone (outside g.F.Shelf.contents g.F.Shelf.faults c.args.shelf.now c.args.shelf.now g.O.Sink.taken g.O.Sink.faults c.args.out.now c.args.out.now)
    (command_of (map string_bytes c.args.words.now)) (record { files = refl; taken = refl })
