use Rattle.std.proofs.Common.{Ok, codes, sym}
use Rattle.kdb_env.specs.Table.{pairs}
use Rattle.kdb_env.proofs.Allowed.{is_radix-value_of, number_at-held}
use Rattle.kdb_env.proofs.variables.Env.radix.Goals as goal

pub radix_of-requires : goal.radix_of-requires
radix_of-requires c = is_radix-value_of (pairs c.self.inside.table) c.in-Some.text.now c.self.invariant (sym c.in-Some.ensures)

pub returns-clause-value : goal.returns-clause-value
returns-clause-value c =
    number_at-held c.args.self.now (pairs c.self.inside.table) (codes "RADIX") c.in-Some.text.now (Ok c.radix_of.result) c.self.view_is c.in-Some.ensures c.radix_of.ensures.value
