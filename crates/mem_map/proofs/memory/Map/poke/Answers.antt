use Rattle.std.proofs.Common.{◌≡◌, ◌<◌, None, ap, set, sym, true, ◌∙◌, refl, arith}
use Rattle.std.proofs.lemmas.Bool.{false≢true}
use Rattle.std.proofs.lemmas.Option.{none-some}
use Rattle.mach_base.specs.Machine.{byte_at, memory_of}
use Rattle.mem_map.specs.Parts.{IsFirstAt, NoneHolds, segments_of}
use Rattle.mem_map.specs.Pages.{page_of, page_total}
use Rattle.mem_map.proofs.Kept.{is-map, keeps-all, keeps-written, paged}
use Rattle.mem_map.proofs.Lookups.{byte_at-none, byte_at-first, below_half}
use Rattle.mem_map.proofs.Writes.{are-written, memory_of-written, segments_of-set}
use Rattle.mem_map.proofs.memory.Map.poke.Goals as goal

pub invariant_of-self : goal.invariant_of-self
invariant_of-self c =
    let ps = c.self.inside.pieces.items in
    let first : IsFirstAt ps c.args.addr c.in-Some.i = rw (← c.as_slice.ensures.value) c.in-Some.ensures in
    let d = c.index_mut-piece.result.now in
    let q = c.put.new.self in
    is-map ps (set ps c.in-Some.i q) c.self.inside.firsts.items c.self.inside.changed.items c.page_at-page.result c.self.invariant (are-written ps c.in-Some.i c.place-place.result c.args.byte d q c.self.invariant.parts first.within c.index_mut-piece.ensures.value c.put.ensures) (segments_of-set ps c.in-Some.i d q (ap (λ p. p.segment) c.put.ensures ∙ ap (λ p. p.segment) c.index_mut-piece.ensures.value))

pub returns-in-None-clause-mapped : goal.returns-in-None-clause-mapped
returns-in-None-clause-mapped c =
    let none : NoneHolds c.self.inside.pieces.items c.args.addr = rw (← c.as_slice.ensures.value) c.in-None.ensures in
    let unmapped : byte_at c.args.self.now.memory c.args.addr ≡ None = rw (← c.self.view_is) (byte_at-none c.self.inside.pieces.items c.args.addr c.self.invariant.parts none) in
    (λ t. absurd (false≢true t), λ ne. absurd (ne unmapped))

pub returns-in-Some-clause-mapped : goal.returns-in-Some-clause-mapped
returns-in-Some-clause-mapped c =
    let first : IsFirstAt c.self.inside.pieces.items c.args.addr c.in-Some.i = rw (← c.as_slice.ensures.value) c.in-Some.ensures in
    let mapped = byte_at-first c.self.inside.pieces.items c.args.addr c.in-Some.i c.index_mut-piece.result.now c.self.invariant.parts first in
    rw (← c.self.view_is) (λ _ none. none-some _ (sym none ∙ mapped), λ _. refl)

pub returns-in-Some-clause-written : goal.returns-in-Some-clause-written
returns-in-Some-clause-written c =
    let ps = c.self.inside.pieces.items in
    let first : IsFirstAt ps c.args.addr c.in-Some.i = rw (← c.as_slice.ensures.value) c.in-Some.ensures in
    let page : c.page_at-page.result ≡ page_of (segments_of ps) c.args.addr = rw (← c.as_slice-in-Some.ensures.value) c.page_at-page.ensures.page in
    rw (← c.self.view_is) (paged _ _ _ _ (memory_of-written ps c.args.addr c.in-Some.i c.place-place.result c.args.byte c.index_mut-piece.result.now c.put.new.self c.self.invariant.parts first c.index_mut-piece.ensures.value c.place-place.ensures c.put.ensures) (ap (λ n. set c.self.inside.changed.items n true) page))

pub returns-in-None-clause-pages : goal.returns-in-None-clause-pages
returns-in-None-clause-pages c = keeps-all _

pub returns-in-Some-clause-pages : goal.returns-in-Some-clause-pages
returns-in-Some-clause-pages c =
    let ps = c.self.inside.pieces.items in
    let marks = c.self.inside.changed.items in
    let first : IsFirstAt ps c.args.addr c.in-Some.i = rw (← c.as_slice.ensures.value) c.in-Some.ensures in
    let page : c.page_at-page.result ≡ page_of (segments_of ps) c.args.addr = rw (← c.as_slice-in-Some.ensures.value) c.page_at-page.ensures.page in
    let within : c.page_at-page.result < page_total (segments_of ps) = rw (← c.as_slice-in-Some.ensures.value) c.page_at-page.ensures.within in
    let kept = keeps-written (record { memory = memory_of ps; changed = marks }) c.args.addr c.args.byte (omega (arith, within, page, c.self.invariant.marks)) in
    rw (returns-in-Some-clause-written c, ← c.self.view_is) kept

pub returns-in-Some-clause-high : goal.returns-in-Some-clause-high
returns-in-Some-clause-high c =
    let first : IsFirstAt c.self.inside.pieces.items c.args.addr c.in-Some.i = rw (← c.as_slice.ensures.value) c.in-Some.ensures in
    λ high. absurd (omega (arith, below_half c.self.inside.pieces.items c.args.addr c.in-Some.i c.index_mut-piece.result.now c.self.invariant.parts first))
