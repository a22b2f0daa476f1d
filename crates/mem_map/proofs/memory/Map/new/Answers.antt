use Rattle.std.proofs.Common.{◌≡◌, map, arith, ◌∙◌, ap}
use Rattle.std.proofs.lemmas.List.{take_all}
use Rattle.mem_map.specs.Parts.{segments_of, zero_part}
use Rattle.mem_map.proofs.Built.{are-zero, segments_of-zero}
use Rattle.mem_map.proofs.memory.Map.new.Goals as goal

pub with_pieces-requires-clause-parts : goal.with_pieces-requires-clause-parts
with_pieces-requires-clause-parts c =
    let all : c.loop-segment.pieces.items ≡ map zero_part c.args.segments.now = c.loop-segment.invariant ∙ ap (map zero_part) (take_all c.loop-segment.segment-index c.args.segments.now (omega arith)) in
    rw all (are-zero c.args.segments.now c.requires)

pub with_pieces-requires-clause-segments : goal.with_pieces-requires-clause-segments
with_pieces-requires-clause-segments c =
    let all : c.loop-segment.pieces.items ≡ map zero_part c.args.segments.now = c.loop-segment.invariant ∙ ap (map zero_part) (take_all c.loop-segment.segment-index c.args.segments.now (omega arith)) in
    ap segments_of all ∙ segments_of-zero c.args.segments.now
