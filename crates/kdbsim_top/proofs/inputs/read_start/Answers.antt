use Rattle.std.proofs.lemmas.Result.{err_from_is_err_and}
use Rattle.kdbsim_top.proofs.Failing.{third_fails}
use Rattle.kdbsim_top.proofs.inputs.read_start.Goals as goal

pub returns-in_err-script-clause-start : goal.returns-in_err-script-clause-start
returns-in_err-script-clause-start g c =
    let p = err_from_is_err_and c.from_residual-in_err-script.result c.from_residual-in_err-script.ensures.1 in
    let names = c.args.names in
    rw (p.1, p.2) (third_fails (g.F.Shelf.contents c.args.shelf.now) (g.F.Shelf.contents c.image_input.new.shelf) (g.F.Shelf.contents c.map_input.new.shelf) names.image.now names.map.now names.script.now c.in_ok-image.image c.in_ok-symbols.symbols
    (g.F.Shelf.faults c.args.shelf.now) (g.F.Shelf.faults c.image_input.new.shelf) (g.F.Shelf.faults c.map_input.new.shelf) (g.F.Shelf.faults c.script_input.new.shelf) c.in_err-script.field-0.0
    c.in_ok-image.ensures.kept c.in_ok-symbols.ensures.kept c.in_ok-image.ensures.count c.in_ok-symbols.ensures.count c.in_ok-image.ensures.image c.in_ok-symbols.ensures.map c.in_err-script.ensures.script)
