use Rattle.std.proofs.Common.{◌≡◌, ◌+◌, ◌<◌, ap, arith, set, subst, sym, true}
use Rattle.std.specs.Prelude.{Some}
use Rattle.std.proofs.lemmas.Result.{err_from_is_err_and}
use Rattle.mach_base.specs.Machine.{memory_of}
use Rattle.mem_map.specs.declared.rights.Access.TheVariants.{Store}
use Rattle.mem_map.specs.Access.{access_fault}
use Rattle.mem_map.specs.Parts.{IsAllowedIn}
use Rattle.mach_base.specs.Bytes.{byte_of}
use Rattle.mem_map.specs.Parts.{IsFirstAt, segments_of}
use Rattle.mem_map.specs.Pages.{page_of, page_total}
use Rattle.mem_map.proofs.Numbering.{are-pages}
use Rattle.mem_map.proofs.Kept.{is-map, keeps-all, keeps-stored, paged}
use Rattle.mem_map.proofs.Writes.{are-each, segments_of-each, memory_of-after_store, store_fault-Some, store_fault-None}
use Rattle.mem_map.proofs.memory.Map.store.Goals as goal

pub returns-in_err-i-clause-fault : goal.returns-in_err-i-clause-fault
returns-in_err-i-clause-fault c =
    let fault : access_fault (memory_of c.self.inside.pieces.items) Store c.args.addr c.args.width ≡ Some c.in_err-i.field-0.0 = rw (← c.as_slice.ensures.value) c.in_err-i.ensures in
    let p = err_from_is_err_and c.from_residual.result c.from_residual.ensures.1 in
    rw (p.1, p.2, ← c.self.view_is) (sym (store_fault-Some (memory_of c.self.inside.pieces.items) c.args.addr c.args.width c.in_err-i.field-0.0 fault))

pub page_at-page-requires-clause-first : goal.page_at-page-requires-clause-first
page_at-page-requires-clause-first c =
    let may : IsAllowedIn c.self.inside.pieces.items Store c.args.addr c.args.width c.in_ok-i.i = rw (← c.as_slice.ensures.value) c.in_ok-i.ensures in
    let here : c.args.addr + 0 ≡ c.args.addr = omega arith in
    rw c.as_slice-2.ensures.value (subst (λ a. IsFirstAt c.self.inside.pieces.items a c.in_ok-i.i) here (may.first 0 (omega (arith, c.requires))))

pub invariant_of-self : goal.invariant_of-self
invariant_of-self c =
    let ps = c.self.inside.pieces.items in
    let may : IsAllowedIn ps Store c.args.addr c.args.width c.in_ok-i.i = rw (← c.as_slice.ensures.value) c.in_ok-i.ensures in
    let d = c.index_mut-piece.result.now in
    let q = c.put_number.new.self in
    is-map ps (set ps c.in_ok-i.i q) c.self.inside.firsts.items c.self.inside.changed.items c.page_at-page.result c.self.invariant (are-each ps c.in_ok-i.i c.place-place.result c.args.width (byte_of c.args.value) d q c.self.invariant.parts may.within c.index_mut-piece.ensures.value c.put_number.ensures) (segments_of-each ps c.in_ok-i.i c.place-place.result c.args.width (byte_of c.args.value) d q c.index_mut-piece.ensures.value c.put_number.ensures)

pub returns-clause-fault : goal.returns-clause-fault
returns-clause-fault c =
    let may : IsAllowedIn c.self.inside.pieces.items Store c.args.addr c.args.width c.in_ok-i.i = rw (← c.as_slice.ensures.value) c.in_ok-i.ensures in
    rw (← c.self.view_is) (sym (store_fault-None c.self.inside.pieces.items c.args.addr c.args.width c.in_ok-i.i may))

pub returns-clause-stored : goal.returns-clause-stored
returns-clause-stored c =
    let ps = c.self.inside.pieces.items in
    let may : IsAllowedIn ps Store c.args.addr c.args.width c.in_ok-i.i = rw (← c.as_slice.ensures.value) c.in_ok-i.ensures in
    let page : c.page_at-page.result ≡ page_of (segments_of ps) c.args.addr = rw (← c.as_slice-2.ensures.value) c.page_at-page.ensures.page in
    rw (← c.self.view_is) (paged _ _ _ _ (memory_of-after_store ps c.args.addr c.args.width c.in_ok-i.i c.place-place.result c.args.value c.index_mut-piece.result.now c.put_number.new.self c.self.invariant.parts may c.index_mut-piece.ensures.value c.place-place.ensures c.put_number.ensures) (ap (λ n. set c.self.inside.changed.items n true) page))

pub returns-in_err-i-clause-pages : goal.returns-in_err-i-clause-pages
returns-in_err-i-clause-pages c = keeps-all _

pub returns-clause-pages : goal.returns-clause-pages
returns-clause-pages c =
    let ps = c.self.inside.pieces.items in
    let marks = c.self.inside.changed.items in
    let may : IsAllowedIn ps Store c.args.addr c.args.width c.in_ok-i.i = rw (← c.as_slice.ensures.value) c.in_ok-i.ensures in
    let page : c.page_at-page.result ≡ page_of (segments_of ps) c.args.addr = rw (← c.as_slice-2.ensures.value) c.page_at-page.ensures.page in
    let within : c.page_at-page.result < page_total (segments_of ps) = rw (← c.as_slice-2.ensures.value) c.page_at-page.ensures.within in
    let kept = keeps-stored (record { memory = memory_of ps; changed = marks }) c.args.addr c.args.width c.args.value (are-pages (segments_of ps) c.self.invariant.parts.segments) c.requires (omega (arith, within, page, c.self.invariant.marks)) (store_fault-None ps c.args.addr c.args.width c.in_ok-i.i may) in
    rw (returns-clause-stored c, ← c.self.view_is) kept
