use Rattle.std.proofs.Common.{◌≡◌, ◌<◌, ap, refl, arith, set, get_or, length}
use Rattle.mach_base.specs.Machine.{memory_of}
use Rattle.mem_map.specs.Parts.{segments_of}
use Rattle.mem_map.specs.Pages.{IsSpot, PagedMemory, page_base, page_length}
use Rattle.mem_map.proofs.Writes.{are-each, segments_of-each, memory_of-with_text}
use Rattle.mem_map.proofs.Numbering.{are-pages}
use Rattle.mem_map.proofs.Kept.{is-map, keeps-text, page-first, paged}
use Rattle.mem_map.proofs.memory.Map.put_page.Goals as goal

pub invariant_of-self : goal.invariant_of-self
invariant_of-self c =
    let ps = c.self.inside.pieces.items in
    let spot = c.spot_of-spot.result in
    let text = c.args.text.now in
    let is : IsSpot ps c.args.number spot = rw (← c.as_slice.ensures.value) c.spot_of-spot.ensures in
    let d = c.index_mut-piece.result.now in
    let q = c.put_text.new.self in
    is-map ps (set ps spot.piece q) c.self.inside.firsts.items c.self.inside.changed.items c.args.number c.self.invariant (are-each ps spot.piece spot.place (length text) (λ k. get_or text k 0) d q c.self.invariant.parts is.within c.index_mut-piece.ensures.value c.put_text.ensures) (segments_of-each ps spot.piece spot.place (length text) (λ k. get_or text k 0) d q c.index_mut-piece.ensures.value c.put_text.ensures)

pub returns-clause-written : goal.returns-clause-written
returns-clause-written c =
    let ps = c.self.inside.pieces.items in
    let spot = c.spot_of-spot.result in
    let text = c.args.text.now in
    let number = c.args.number in
    let is : IsSpot ps number spot = rw (← c.as_slice.ensures.value) c.spot_of-spot.ensures in
    let d = c.index_mut-piece.result.now in
    let size : length text ≡ page_length (segments_of ps) number = rw (← c.self.view_is) at c.requires.size in
    let base : d.segment.base ≡ (get_or ps spot.piece d).segment.base = ap (λ p. p.segment.base) c.index_mut-piece.ensures.value in
    rw (← c.self.view_is) (paged _ _ _ _ (memory_of-with_text ps (page_base (segments_of ps) number) spot.piece spot.place text d c.put_text.new.self c.self.invariant.parts (λ k lt. page-first ps number (length text) k spot d c.self.invariant.parts is size lt) is.within (omega (arith, base, is.base d)) c.index_mut-piece.ensures.value (omega (arith, base, is.base d)) c.put_text.ensures) refl)

pub returns-clause-pages : goal.returns-clause-pages
returns-clause-pages c =
    let ps = c.self.inside.pieces.items in
    let marks = c.self.inside.changed.items in
    let old : PagedMemory = record { memory = memory_of ps; changed = marks } in
    let within : c.args.number < length marks = rw (← c.self.view_is) at c.requires.page in
    let size : length c.args.text.now ≡ page_length (segments_of ps) c.args.number = rw (← c.self.view_is) at c.requires.size in
    let kept = keeps-text old c.args.number c.args.text.now (are-pages (segments_of ps) c.self.invariant.parts.segments) c.self.invariant.marks within size in
    rw (returns-clause-written c, ← c.self.view_is) kept
