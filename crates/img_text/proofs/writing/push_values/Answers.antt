use Rattle.std.proofs.Common.{arith}
use Rattle.img_text.proofs.Texts.{values-more, values-end}
use Rattle.img_text.proofs.writing.push_values.Goals as goal

pub loop-preserved : goal.loop-preserved
loop-preserved c = record {
  told = rw (c.in_ok-push_directive.ensures, c.split_at.ensures.back, c.value_of.ensures, c.split_at.ensures.front) (values-more c.loop.out.items c.loop.left.now _ _ c.loop.counter c.loop-test.true c.loop.invariant.told);
  room = omega (arith, c.loop.invariant.room, c.split_at.ensures.back_len);
}

pub returns : goal.returns
returns c = values-end c.loop.out.items c.loop.left.now _ _ c.loop.counter c.loop-test.false c.loop.invariant.told
