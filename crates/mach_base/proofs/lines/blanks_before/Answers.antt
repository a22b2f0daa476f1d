use Rattle.std.proofs.Common.{◌∙◌, sym}
use Rattle.mach_base.proofs.Cuts.{words_of-blank}
use Rattle.mach_base.proofs.lines.blanks_before.Goals as goal

pub loop-i-preserved : goal.loop-i-preserved
loop-i-preserved c = c.loop-i.invariant ∙ words_of-blank c.args.line.now c.loop-i.i c.loop-i-test.true (sym c.is_blank.ensures ∙ c.if-not-is_blank.false)
