use Rattle.std.proofs.Common.{ℕ, below_more, get_or, None, refl}
use Rattle.img_text.specs.Writing.{StartFits}
use Rattle.img_text.proofs.Texts.{starts-more, starts-end, AllByRecursion-starts}
use Rattle.img_text.proofs.writing.push_starts.Goals as goal

pub loop-hart-preserved : goal.loop-hart-preserved
loop-hart-preserved c = record {
  told = rw c.in_ok-push_start.ensures.text (starts-more c.loop-hart.out.items _ c.args.name.now c.args.starts.now c.loop-hart.hart _ c.loop-hart-test.true refl c.loop-hart.invariant.told);
  fits = below_more (λ (k : ℕ). StartFits (get_or c.args.starts.now k None)) c.loop-hart.hart c.loop-hart.invariant.fits c.in_ok-push_start.ensures.fits;
}

pub returns-clause-text : goal.returns-clause-text
returns-clause-text c = starts-end c.loop-hart.out.items _ c.args.name.now c.args.starts.now c.loop-hart.hart c.loop-hart-test.false c.loop-hart.invariant.told

pub returns-clause-fits : goal.returns-clause-fits
returns-clause-fits c = AllByRecursion-starts c.args.starts.now c.loop-hart.hart c.loop-hart-test.false c.loop-hart.invariant.fits
