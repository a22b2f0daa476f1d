use Rattle.std.proofs.Common.{Ok, codes, sym}
use Rattle.kdb_env.specs.Table.{pairs}
use Rattle.kdb_env.proofs.Allowed.{is_count-value_of, number_at-held}
use Rattle.kdb_env.proofs.variables.Env.count.Goals as goal

pub count_of-requires : goal.count_of-requires
count_of-requires c = is_count-value_of (pairs c.self.inside.table) c.in-Some.text.now c.self.invariant (sym c.in-Some.ensures)

pub returns-clause-value : goal.returns-clause-value
returns-clause-value c =
    number_at-held c.args.self.now (pairs c.self.inside.table) (codes "MDCOUNT") c.in-Some.text.now (Ok c.count_of.result) c.self.view_is c.in-Some.ensures c.count_of.ensures.value
