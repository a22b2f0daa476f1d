use Rattle.std.proofs.Common.{subst, sym, ap}
use Rattle.kdb_env.specs.Variables.{Variables, AreVariables}
use Rattle.kdb_env.specs.Table.{pairs, pairs_of}
use Rattle.kdb_env.proofs.Allowed.{AreVariables-defaults, defaults-set}
use Rattle.kdb_env.proofs.variables.Env.new.Goals as goal

pub invariant_of-result : goal.invariant_of-result
invariant_of-result c =
    let is = defaults-set (pairs c.new-table.result) (pairs c.put.new.table) (pairs c.put-2.new.table) (pairs c.put-3.new.table) (pairs c.put-4.new.table) (pairs c.put-5.new.table) (ap pairs_of c.new-table.ensures.empty) c.in_ok-put.ensures.ok c.in_ok-put-2.ensures.ok c.in_ok-put-3.ensures.ok c.in_ok-put-4.ensures.ok c.in_ok-put-5.ensures.ok in
    subst (λ (vs : Variables). AreVariables vs) (sym is) AreVariables-defaults

pub returns : goal.returns
returns c =
    defaults-set (pairs c.new-table.result) (pairs c.put.new.table) (pairs c.put-2.new.table) (pairs c.put-3.new.table) (pairs c.put-4.new.table) (pairs c.put-5.new.table) (ap pairs_of c.new-table.ensures.empty) c.in_ok-put.ensures.ok c.in_ok-put-2.ensures.ok c.in_ok-put-3.ensures.ok c.in_ok-put-4.ensures.ok c.in_ok-put-5.ensures.ok
