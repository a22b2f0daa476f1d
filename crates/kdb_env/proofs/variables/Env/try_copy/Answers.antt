use Rattle.std.proofs.Common.{subst, sym, ◌∙◌}
use Rattle.std.proofs.lemmas.List.Elements.{same_from_all_zip}
use Rattle.kdb_env.specs.Variables.{Variables, AreVariables}
use Rattle.kdb_env.proofs.Pairs.{pairs_of-clones}
use Rattle.kdb_env.proofs.variables.Env.try_copy.Goals as goal

pub invariant_of-result : goal.invariant_of-result
invariant_of-result c =
    let copied = pairs_of-clones _ (λ v w all. same_from_all_zip _ v.items w.items all.0 (λ x y e. e)) c.self.inside.table.entries c.in_ok-table.table.entries c.in_ok-table.ensures.cases in
    subst (λ (vs : Variables). AreVariables vs) (sym copied) c.self.invariant

pub returns : goal.returns
returns c =
    let copied = pairs_of-clones _ (λ v w all. same_from_all_zip _ v.items w.items all.0 (λ x y e. e)) c.self.inside.table.entries c.in_ok-table.table.entries c.in_ok-table.ensures.cases in
    copied ∙ c.self.view_is
