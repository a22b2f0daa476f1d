use Rattle.std.proofs.Common.{false, refl}
use Rattle.std.proofs.lemmas.Bool.{both_ways}
use Rattle.deck_core.specs.declared.plain.act.Act.TheVariants as act
use Rattle.deck_core.proofs.Allowed.{allowed_legal}
use Rattle.test_bus.proofs.ending.EndingBusBus.line.Goals as goal

pub returns-clause-gives : goal.returns-clause-gives
returns-clause-gives c = record { ended = λ over. (refl, refl); working = λ works. absurd (both_ways false refl (allowed_legal (act.Line c.args._h) _ c.requires works)) }
