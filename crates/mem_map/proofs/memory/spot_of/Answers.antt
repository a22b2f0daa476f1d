use Rattle.std.proofs.Common.{arith}
use Rattle.mem_map.specs.Pages.{first_pages, IsCountUpTo}
use Rattle.mem_map.specs.Parts.{segments_of}
use Rattle.mem_map.proofs.Numbering.{rising-first_pages, length-first_pages, few-pages, some-begun, spot-within, spot-first, is-spot}
use Rattle.mem_map.proofs.memory.spot_of.Goals as goal

pub count_up_to-piece-requires : goal.count_up_to-piece-requires
count_up_to-piece-requires c = rw c.requires.firsts (rising-first_pages 0 c.args.pieces.now)

pub overflow_sub-piece : goal.overflow_sub-piece
overflow_sub-piece c =
    let counted : IsCountUpTo (first_pages 0 (segments_of c.args.pieces.now)) c.args.page c.count_up_to-piece.result = rw (← c.requires.firsts) c.count_up_to-piece.ensures in
    some-begun c.args.pieces.now c.args.page c.count_up_to-piece.result c.requires.page counted

pub bounds-firsts-piece : goal.bounds-firsts-piece
bounds-firsts-piece c =
    let counted : IsCountUpTo (first_pages 0 (segments_of c.args.pieces.now)) c.args.page c.count_up_to-piece.result = rw (← c.requires.firsts) c.count_up_to-piece.ensures in
    rw (c.requires.firsts, length-first_pages 0 c.args.pieces.now) (spot-within c.args.pieces.now c.requires.parts c.args.page c.count_up_to-piece.result c.requires.page counted)

pub overflow_sub-result : goal.overflow_sub-result
overflow_sub-result c =
    let counted : IsCountUpTo (first_pages 0 (segments_of c.args.pieces.now)) c.args.page c.count_up_to-piece.result = rw (← c.requires.firsts) c.count_up_to-piece.ensures in
    rw c.requires.firsts (spot-first c.args.pieces.now c.requires.parts c.args.page c.count_up_to-piece.result c.requires.page counted)

pub overflow_mul-result : goal.overflow_mul-result
overflow_mul-result c =
    omega (arith, few-pages (segments_of c.args.pieces.now) c.requires.parts.segments.bounds, c.requires.parts.segments.small, c.requires.page)

pub returns : goal.returns
returns c =
    let counted : IsCountUpTo (first_pages 0 (segments_of c.args.pieces.now)) c.args.page c.count_up_to-piece.result = rw (← c.requires.firsts) c.count_up_to-piece.ensures in
    rw c.requires.firsts (is-spot c.args.pieces.now c.requires.parts c.args.page c.count_up_to-piece.result c.requires.page counted)
