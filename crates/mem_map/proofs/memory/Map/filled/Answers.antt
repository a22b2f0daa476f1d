use Rattle.std.proofs.Common.{◌≡◌, arith, ◌∙◌, ap}
use Rattle.std.proofs.lemmas.List.{take_all}
use Rattle.mem_map.specs.Parts.{parts_of, segments_of}
use Rattle.mem_map.proofs.Built.{are-parts, segments_of-parts, length-contents, parts_of-push}
use Rattle.mem_map.proofs.memory.Map.filled.Goals as goal

pub bounds-contents-i : goal.bounds-contents-i
bounds-contents-i c =
    let lengths = length-contents c.args.segments.now c.args.contents.now c.requires.contents in
    omega arith

pub loop-i-preserved : goal.loop-i-preserved
loop-i-preserved c =
    parts_of-push c.args.segments.now c.args.contents.now c.loop-i.i _ c.index-contents-i.result c.as_bytes.result.now c.loop-i.pieces.items c.push.new.self.items c.in_ok-filled.field-0 c.loop-i-test.true c.requires.contents c.loop-i.invariant c.in_ok-push.ensures.items c.in_ok-filled.ensures c.as_bytes.ensures c.index-contents-i.is

pub with_pieces-requires-clause-parts : goal.with_pieces-requires-clause-parts
with_pieces-requires-clause-parts c =
    let all : c.loop-i.pieces.items ≡ parts_of c.args.segments.now c.args.contents.now = c.loop-i.invariant ∙ ap (λ ss. parts_of ss c.args.contents.now) (take_all c.loop-i.i c.args.segments.now (omega arith)) in
    rw all (are-parts c.args.segments.now c.args.contents.now c.requires.segments c.requires.contents)

pub with_pieces-requires-clause-segments : goal.with_pieces-requires-clause-segments
with_pieces-requires-clause-segments c =
    let all : c.loop-i.pieces.items ≡ parts_of c.args.segments.now c.args.contents.now = c.loop-i.invariant ∙ ap (λ ss. parts_of ss c.args.contents.now) (take_all c.loop-i.i c.args.segments.now (omega arith)) in
    ap segments_of all ∙ segments_of-parts c.args.segments.now c.args.contents.now c.requires.contents
