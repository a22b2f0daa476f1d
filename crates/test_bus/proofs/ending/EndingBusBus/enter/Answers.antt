use Rattle.std.proofs.Common.{not, refl}
use Rattle.std.proofs.lemmas.Bool.{both_ways, and_parts}
use Rattle.mach_base.specs.Masks.{has_bit}
use Rattle.mach_base.proofs.Bits.{has_bit-zero}
use Rattle.deck_core.specs.declared.plain.act.Act.TheVariants as act
use Rattle.deck_core.proofs.Allowed.{allowed_legal}
use Rattle.test_bus.proofs.ending.EndingBusBus.enter.Goals as goal

pub returns-clause-gives : goal.returns-clause-gives
returns-clause-gives c = record {
  ended = λ over. (refl, refl);
  working = λ works.
      let h = c.args._h.0 in
      absurd (both_ways (has_bit 0 h) (has_bit-zero h) (and_parts (not (has_bit c.args._late h)) (has_bit 0 h) (allowed_legal (act.Enter c.args._h c.args._late) _ c.requires works)).1);
}
