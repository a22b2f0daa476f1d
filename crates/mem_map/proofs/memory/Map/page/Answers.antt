use Rattle.std.proofs.Common.{◌≡◌, ◌+◌, ◌-◌, ap, arith, ◌∙◌, drop, get_or, false, length}
use Rattle.std.proofs.lemmas.List.{get_or_default, get_or-drop, get_or-take, length-drop, length-take}
use Rattle.mach_base.specs.Machine.{byte_at, memory_of}
use Rattle.mem_map.specs.Parts.{segments_of}
use Rattle.mem_map.specs.Pages.{IsSpot, page_base, page_length}
use Rattle.mem_map.proofs.Lookups.{byte_at-read}
use Rattle.mem_map.proofs.Natural.{bounds_at, whole_at}
use Rattle.mem_map.proofs.Kept.{page-first}
use Rattle.mem_map.proofs.memory.Map.page.Goals as goal

pub overflow_add-result : goal.overflow_add-result
overflow_add-result c =
    let ps = c.self.inside.pieces.items in
    let spot = c.spot_of-spot.result in
    let is : IsSpot ps c.args.number spot = rw (← c.as_slice.ensures.value) c.spot_of-spot.ensures in
    let piece = c.index-piece.result.now in
    let base : piece.segment.base ≡ (get_or ps spot.piece piece).segment.base = ap (λ p. p.segment.base) c.index-piece.ensures in
    omega (arith, bounds_at ps spot.piece piece c.self.invariant.parts.segments.bounds is.within, whole_at ps spot.piece piece c.self.invariant.parts.whole is.within, is.place piece, base, c.base.ensures)

pub returns : goal.returns
returns c =
    let ps = c.self.inside.pieces.items in
    let spot = c.spot_of-spot.result in
    let number = c.args.number in
    let is : IsSpot ps number spot = rw (← c.as_slice.ensures.value) c.spot_of-spot.ensures in
    let piece = c.index-piece.result.now in
    let e = c.index-piece.ensures in
    let base : c.base.result + spot.place ≡ page_base (segments_of ps) number = ap (λ n. n + spot.place) (c.base.ensures ∙ ap (λ p. p.segment.base) e) ∙ is.base piece in
    let size : length c.page.result.now ≡ page_length (segments_of ps) number =
    ap length c.page.ensures ∙ length-take 4096 (drop spot.place piece.bytes) ∙ omega (arith, length-drop spot.place piece.bytes, ap (λ p. length p.bytes) e, is.size piece)
    in
    rw (← c.self.view_is) (record {
      base = base;
      size = size;
      bytes = λ k lt.
          let first = page-first ps number (length c.page.result.now) k spot piece c.self.invariant.parts is size lt in
          let at : spot.place + k ≡ page_base (segments_of ps) number + k - piece.segment.base = omega (arith, base, c.base.ensures) in
          let read : get_or c.page.result.now k 0 ≡ get_or piece.bytes (spot.place + k) 0 =
          ap (λ l. get_or l k 0) c.page.ensures ∙ get_or-take 4096 (drop spot.place piece.bytes) k 0 (omega (arith, lt, ap length c.page.ensures, length-take 4096 (drop spot.place piece.bytes))) ∙ get_or-drop spot.place piece.bytes k 0
          in
          ap (λ a. byte_at (memory_of ps) (a + k)) base ∙ byte_at-read ps (page_base (segments_of ps) number + k) spot.piece (spot.place + k) (get_or c.page.result.now k 0) piece c.self.invariant.parts first e at read;
      mark = c.index.ensures ∙ get_or_default c.self.inside.changed.items number c.index.result.now false (omega (arith, c.len.ensures, c.if-number-len.false));
    })
