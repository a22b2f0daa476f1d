use Rattle.std.proofs.Common.{Ok, codes, sym}
use Rattle.kdb_env.specs.Table.{pairs}
use Rattle.kdb_env.proofs.Allowed.{is_width-value_of, number_at-held}
use Rattle.kdb_env.proofs.variables.Env.width.Goals as goal

pub width_of-requires : goal.width_of-requires
width_of-requires c = is_width-value_of (pairs c.self.inside.table) c.in-Some.text.now c.self.invariant (sym c.in-Some.ensures)

pub returns-clause-value : goal.returns-clause-value
returns-clause-value c =
    number_at-held c.args.self.now (pairs c.self.inside.table) (codes "BYTESPERWORD") c.in-Some.text.now (Ok c.width_of.result) c.self.view_is c.in-Some.ensures c.width_of.ensures.value
