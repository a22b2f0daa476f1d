use Rattle.std.proofs.Common.{ap, length, arith}
use Rattle.mem_map.specs.Parts.{segments_of}
use Rattle.mem_map.proofs.Numbering.{length-first_pages, few-pages, page_of-read, page_of-total}
use Rattle.mem_map.proofs.memory.page_at.Goals as goal

pub bounds-firsts-i : goal.bounds-firsts-i
bounds-firsts-i c = omega (arith, c.requires.first.within, length-first_pages 0 c.args.pieces.now, ap length c.requires.firsts)

pub overflow_add-result : goal.overflow_add-result
overflow_add-result c =
    let ps = c.args.pieces.now in
    omega (arith, page_of-read ps c.args.firsts.now c.args.addr c.args.i c.place.result c.index-pieces-i.result c.requires.firsts c.requires.first c.index-pieces-i.is c.place.ensures, page_of-total ps c.args.addr c.args.i c.index-pieces-i.result c.requires.first, few-pages (segments_of ps) c.requires.parts.segments.bounds, c.requires.parts.segments.small)

pub returns-clause-page : goal.returns-clause-page
returns-clause-page c =
    page_of-read c.args.pieces.now c.args.firsts.now c.args.addr c.args.i c.place.result c.index-pieces-i.result c.requires.firsts c.requires.first c.index-pieces-i.is c.place.ensures

pub returns-clause-within : goal.returns-clause-within
returns-clause-within c =
    let page = page_of-read c.args.pieces.now c.args.firsts.now c.args.addr c.args.i c.place.result c.index-pieces-i.result c.requires.firsts c.requires.first c.index-pieces-i.is c.place.ensures in
    rw page (page_of-total c.args.pieces.now c.args.addr c.args.i c.index-pieces-i.result c.requires.first)
