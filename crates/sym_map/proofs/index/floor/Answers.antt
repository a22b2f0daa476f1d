use Rattle.std.proofs.Common.{rules}
use Rattle.std.proofs.lemmas.Map.Keys.{ge_from_not_lt}
use Rattle.sym_map.proofs.index.floor.Goals as goal

pub returns-clause-greatest : goal.returns-clause-greatest
returns-clause-greatest c = λ q le some. ge_from_not_lt c.in_ok-at.at.now q ((c.range.ensures.in_range tt).4 _ _ c.in_ok-at.ensures.steps q (tt, search rules) some)
