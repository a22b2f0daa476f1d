use Rattle.std.proofs.Common.{sym, ◌∙◌}
use Rattle.mach_base.proofs.Bits.{search_on}
use Rattle.mach_base.proofs.masks.least_outside.Goals as goal

pub loop-k-preserved : goal.loop-k-preserved
loop-k-preserved c =
    search_on c.args.harts c.loop-k.k c.args.mask c.loop-k-test.true (sym c.has_bit.ensures ∙ c.if-not-has_bit.false) ∙ c.loop-k.invariant
