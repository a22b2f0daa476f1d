use Rattle.std.proofs.Common.{arith}
use Rattle.std.proofs.lemmas.Bool.{ltb-true}
use Rattle.deck_core.specs.declared.plain.act.Act.TheVariants as act
use Rattle.deck_core.proofs.Allowed.{allowed_names}
use Rattle.test_bus.proofs.scripted.SmallBusBus.check.Goals as goal

pub has_bit-requires : goal.has_bit-requires
has_bit-requires c = omega (arith, ltb-true c.args.h.0 2 (allowed_names (act.Check c.args.h) _ c.requires))
