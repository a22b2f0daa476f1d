use Rattle.std.proofs.Common.{◌≡◌, ◌++◌, ap, ◌∙◌}
use Rattle.atom_mach.specs.Texts.{ending_line}
use Rattle.bus_core.specs.Core.{machine_of}
use Rattle.kdbsim_runs.proofs.Records.{recorded}
use Rattle.kdbsim_runs.proofs.record.record_of.Goals as goal

pub returns : goal.returns
returns c = λ start from.
    recorded c.never_legal.ensures start c.args.core.now c.ending_of-ending.result c.push_ending_line.new.out.items from (c.reads_as_a_run.ensures.run start from) c.requires.kept c.ending_of-ending.ensures
    (rw c.steps.ensures at c.in_ok-push_ending_line.ensures.ok ∙ ap (λ t. t ++ ending_line c.ending_of-ending.result (machine_of c.args.core.now).machine.steps) (c.in_ok-transcript.ensures.items ∙ c.transcript.ensures))
