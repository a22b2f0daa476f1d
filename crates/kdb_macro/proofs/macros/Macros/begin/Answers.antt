use Rattle.kdb_macro.specs.Macros.{MacroList}
use Rattle.kdb_macro.proofs.Limits.{AreMacros-begun}
use Rattle.kdb_macro.proofs.macros.Macros.begin.Goals as goal

pub invariant_of-self-2 : goal.invariant_of-self-2
invariant_of-self-2 c =
    let s : MacroList = record { macros = c.self.inside.macros.items; defining = c.self.inside.defining } in
    rw c.in_ok-push.ensures.ok (AreMacros-begun s c.as_slice.result.now c.args.name.now c.args.reserved c.self.invariant c.as_slice.ensures.value c.in-None.ensures)
