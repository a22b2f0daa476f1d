use Rattle.std.proofs.Common.{subst, sym, ap, ◌∙◌}
use Rattle.kdb_env.specs.Variables.{Variables, AreVariables, refusal_of}
use Rattle.kdb_env.specs.Table.{pairs}
use Rattle.kdb_env.proofs.Allowed.{AreVariables-with_value}
use Rattle.kdb_env.proofs.variables.Env.set.Goals as goal

pub invariant_of-self-2 : goal.invariant_of-self-2
invariant_of-self-2 c =
    let vars = pairs c.self.inside.table in
    let passes = ap (λ (vs : Variables). refusal_of vs c.args.name.now c.args.value.now) c.self.view_is ∙ sym c.in-None.ensures in
    subst (λ (vs : Variables). AreVariables vs) (sym c.in_ok-put.ensures.ok) (AreVariables-with_value vars c.args.name.now c.args.value.now c.self.invariant passes)
