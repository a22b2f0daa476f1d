use Rattle.std.proofs.Common.{◌++◌, arith, ◌∙◌, append_assoc}
use Rattle.img_text.specs.Writing.{numbers_text, directive_text}
use Rattle.img_text.proofs.Texts.{numbers-end}
use Rattle.img_text.proofs.writing.push_directive.Goals as goal

pub returns : goal.returns
unfolding directive_text
returns c =
    c.in_ok-push-2.ensures.items ∙ (numbers-end c.loop-number.out.items c.args.numbers.now ((c.args.out.now.items ++ c.args.name.now) ++ numbers_text c.args.numbers.now) c.loop-number.number-index (omega arith) c.loop-number.invariant ∙ append_assoc c.args.out.now.items c.args.name.now (numbers_text c.args.numbers.now))
