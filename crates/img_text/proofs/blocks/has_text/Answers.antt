use Rattle.std.proofs.Common.{refl, sym, ◌∙◌, arith}
use Rattle.img_text.proofs.Parts.{has_text-at, has_text-end}
use Rattle.img_text.proofs.blocks.has_text.Goals as goal

pub returns-then-is_text : goal.returns-then-is_text
returns-then-is_text c =
    let here = has_text-at c.args.blocks.now c.loop-block.block-index c.block-item.result c.loop-block-test.true c.block-item.is in
    let text = sym c.is_text.ensures ∙ c.if-is_text.true in
    sym (c.loop-block.invariant ∙ (here ∙ rw text refl))

pub loop-block-preserved : goal.loop-block-preserved
loop-block-preserved c =
    let here = has_text-at c.args.blocks.now c.loop-block.block-index c.block-item.result c.loop-block-test.true c.block-item.is in
    let other = sym c.is_text.ensures ∙ c.if-is_text.false in
    c.loop-block.invariant ∙ (here ∙ rw other refl)

pub returns : goal.returns
returns c = sym (c.loop-block.invariant ∙ has_text-end c.args.blocks.now c.loop-block.block-index (omega arith))
