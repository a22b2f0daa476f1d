use Rattle.std.proofs.Common.{◌≡◌, ◌∷◌, [], Some, refl, ap, subst}
use Rattle.std.proofs.lemmas.Result.{err_from_is_err_and}
use Rattle.kdbsim_files.specs.Files.{HasFile, plan_file}
use Rattle.kdbsim_top.specs.Stages.{origin_of}
use Rattle.kdbsim_top.proofs.Failing.{start_fails, fourth_fails}
use Rattle.kdbsim_top.proofs.commands.lockstep.Goals as goal

pub returns-in_err-start-clause-cause : goal.returns-in_err-start-clause-cause
returns-in_err-start-clause-cause g c =
    let p = err_from_is_err_and c.from_residual.result c.from_residual.ensures.1 in
    let names = c.args.names in
    rw (p.1, p.2) (start_fails (g.F.Shelf.contents c.args.shelf.now) names.image.now names.map.now names.script.now (record { kind = plan_file c.args.options.harts; name = c.args.plan.now } ∷ [])
    (g.F.Shelf.faults c.args.shelf.now) (g.F.Shelf.faults c.read_start.new.shelf) c.in_err-start.field-0.0 c.in_err-start.ensures.start)

pub returns-in_err-plan-clause-cause : goal.returns-in_err-plan-clause-cause
returns-in_err-plan-clause-cause g c =
    let p = err_from_is_err_and c.from_residual-in_err-plan.result c.from_residual-in_err-plan.ensures.1 in
    let names = c.args.names in
    let s = c.in_ok-start.start in
    rw (p.1, p.2) (fourth_fails (g.F.Shelf.contents c.args.shelf.now) (g.F.Shelf.contents c.read_start.new.shelf) names.image.now names.map.now names.script.now s.image s.names s.script (plan_file c.args.options.harts) c.args.plan.now
    (g.F.Shelf.faults c.args.shelf.now) (g.F.Shelf.faults c.read_start.new.shelf) (g.F.Shelf.faults c.plan_input.new.shelf) c.in_err-plan.field-0.0 c.in_ok-start.ensures.kept c.in_ok-start.ensures.count c.in_ok-start.ensures.start c.in_err-plan.ensures.plan)

pub returns-in-Ok-clause-cause : goal.returns-in-Ok-clause-cause
returns-in-Ok-clause-cause g c = λ journal.
    let made = c.in-Ok.ensures in
    record {
      start = origin_of c.in_ok-start.start c.args.options;
      runs = c.in_ok-plan.plan;
      read_plan = subst (λ f. HasFile f (plan_file c.args.options.harts) c.args.plan.now c.in_ok-plan.plan) c.in_ok-start.ensures.kept c.in_ok-plan.ensures.plan;
      bus = made.bus;
      ticked = made.ticked;
      recorded = record {
        inputs = c.in_ok-start.ensures.start;
        harts = refl;
        limit = refl;
        recorded = made.recorded;
        written = ap (λ t. Some (journal, t)) made.text_is;
      };
    }
