use Rattle.std.proofs.Common.{◌≡◌, ◌∷◌, [], inl, Some, refl, ap, subst}
use Rattle.std.proofs.lemmas.Result.{err_from_is_err_and}
use Rattle.kdbsim_files.specs.Files.{HasFile, journal_file}
use Rattle.kdbsim_top.proofs.Failing.{start_fails, fourth_fails}
use Rattle.kdbsim_top.proofs.commands.replay_files.Goals as goal

pub returns-in_err-image-clause-cause : goal.returns-in_err-image-clause-cause
returns-in_err-image-clause-cause g c =
    let p = err_from_is_err_and c.from_residual.result c.from_residual.ensures.1 in
    let names = c.args.names in
    rw (p.1, p.2) (inl (start_fails (g.F.Shelf.contents c.args.shelf.now) names.image.now names.map.now names.script.now (record { kind = journal_file; name = c.args.journal.now } ∷ [])
    (g.F.Shelf.faults c.args.shelf.now) (g.F.Shelf.faults c.read_start.new.shelf) c.in_err-image.field-0.0 c.in_err-image.ensures.start))

pub returns-in_err-journal-clause-cause : goal.returns-in_err-journal-clause-cause
returns-in_err-journal-clause-cause g c =
    let p = err_from_is_err_and c.from_residual-in_err-journal.result c.from_residual-in_err-journal.ensures.1 in
    let names = c.args.names in
    let s = c.in_ok-image.field-0 in
    rw (p.1, p.2) (inl (fourth_fails (g.F.Shelf.contents c.args.shelf.now) (g.F.Shelf.contents c.read_start.new.shelf) names.image.now names.map.now names.script.now s.image s.names s.script journal_file c.args.journal.now
    (g.F.Shelf.faults c.args.shelf.now) (g.F.Shelf.faults c.read_start.new.shelf) (g.F.Shelf.faults c.journal_input.new.shelf) c.in_err-journal.field-0.0 c.in_ok-image.ensures.kept c.in_ok-image.ensures.count c.in_ok-image.ensures.start c.in_err-journal.ensures.journal))
