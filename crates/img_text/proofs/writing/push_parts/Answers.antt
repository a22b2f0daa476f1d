use Rattle.std.proofs.Common.{get_or, ap}
use Rattle.mach_base.specs.declared.memory_range.Kind.TheVariants.{Text}
use Rattle.mach_base.specs.declared.memory_range.Segment.{Segment}
use Rattle.img_text.proofs.Texts.{parts-more, parts-end}
use Rattle.img_text.proofs.writing.push_parts.Goals as goal

pub loop-i-preserved : goal.loop-i-preserved
loop-i-preserved c =
    let none : Segment = record { base = 0; len = 0; kind = Text } in
    let segment = get_or c.args.segments.now c.loop-i.i none in
    rw c.in_ok-push_part.ensures (parts-more c.loop-i.out.items _ c.args.image.now.parts c.loop-i.i segment none c.contents.result.now (ap (λ ss. get_or ss c.loop-i.i none) c.requires) c.contents.ensures c.loop-i.invariant)

pub returns : goal.returns
returns c = parts-end c.loop-i.out.items _ c.args.image.now.parts c.loop-i.i (rw (← c.requires) c.loop-i-test.false) c.loop-i.invariant
