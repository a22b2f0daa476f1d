use Rattle.std.proofs.Common.{◌≡◌, ◌&&◌, Bool, true, false, not, refl, sym, ◌∙◌, ap}
use Rattle.mach_base.proofs.Bits.{has_bit-zero}
use Rattle.test_bus.proofs.ending.EndingBusBus.check.Goals as goal

no_trap : (e : Bool) → false ≡ (not e && false)
no_trap true = refl
no_trap false = refl

pub returns-clause-gives : goal.returns-clause-gives
returns-clause-gives c = record {
  told = refl;
  some = no_trap c.args.self.now.ended ∙ ap (λ x. not c.args.self.now.ended && x) (sym (has_bit-zero c.args._h.0));
}
