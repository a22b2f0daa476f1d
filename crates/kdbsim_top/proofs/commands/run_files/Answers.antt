use Rattle.std.proofs.Common.{◌≡◌, ◌∷◌, [], Some, refl, ap, subst}
use Rattle.kdbsim_top.specs.Stages.{origin_of}
use Rattle.kdbsim_top.proofs.commands.run_files.Goals as goal

pub returns-in-Ok-clause-cause : goal.returns-in-Ok-clause-cause
returns-in-Ok-clause-cause g c = λ journal.
    let made = c.in-Ok.ensures in
    record {
      start = origin_of c.in_ok-start.start c.args.options;
      entries = made.entries;
      recorded = record {
        inputs = c.in_ok-start.ensures.start;
        harts = refl;
        limit = refl;
        recorded = made.recorded;
        written = ap (λ t. Some (journal, t)) made.text_is;
      };
      ends = made.ends;
    }
