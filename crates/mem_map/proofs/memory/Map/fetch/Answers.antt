use Rattle.std.proofs.Common.{◌≡◌, ◌-◌, get_or, refl, sym}
use Rattle.std.specs.Prelude.{Some}
use Rattle.std.proofs.lemmas.Result.{err_from_is_err_and}
use Rattle.mach_base.specs.Machine.{memory_of}
use Rattle.mem_map.specs.declared.rights.Access.TheVariants.{Fetch}
use Rattle.mem_map.specs.Access.{access_fault}
use Rattle.mem_map.specs.Parts.{IsAllowedIn}
use Rattle.mem_map.proofs.Lookups.{fetch_result-Err, fetch_result-read}
use Rattle.mem_map.proofs.memory.Map.fetch.Goals as goal

pub returns-in_err-i : goal.returns-in_err-i
returns-in_err-i c =
    let fault : access_fault (memory_of c.self.inside.pieces.items) Fetch c.args.addr 4 ≡ Some c.in_err-i.field-0.0 = rw (← c.as_slice-pieces.ensures.value) c.in_err-i.ensures in
    let p = err_from_is_err_and c.from_residual.result c.from_residual.ensures.1 in
    rw (p.1, p.2, ← c.self.view_is) (sym (fetch_result-Err (memory_of c.self.inside.pieces.items) c.args.addr c.in_err-i.field-0.0 fault))

pub returns-then-is_in_first : goal.returns-then-is_in_first
returns-then-is_in_first c =
    let may : IsAllowedIn c.self.inside.pieces.items Fetch c.args.addr 4 0 = rw (← c.as_slice-pieces.ensures.value) (c.is_in_first.ensures c.if-is_in_first.true) in
    let piece : c.index-pieces-0.result ≡ get_or c.self.inside.pieces.items 0 c.index-pieces-0.result = rw (← c.as_slice-pieces.ensures.value) c.index-pieces-0.is in
    rw (← c.self.view_is) (sym (fetch_result-read c.self.inside.pieces.items c.args.addr 0 (c.args.addr - c.index-pieces-0.result.segment.base) c.word_of.result c.index-pieces-0.result c.self.invariant.parts may piece refl c.word_of.ensures))

pub returns : goal.returns
returns c =
    let may : IsAllowedIn c.self.inside.pieces.items Fetch c.args.addr 4 c.in_ok-i.i = rw (← c.as_slice-pieces.ensures.value) c.in_ok-i.ensures in
    let piece : c.index-pieces-i.result ≡ get_or c.self.inside.pieces.items c.in_ok-i.i c.index-pieces-i.result = rw (← c.as_slice-pieces.ensures.value) c.index-pieces-i.is in
    rw (← c.self.view_is) (sym (fetch_result-read c.self.inside.pieces.items c.args.addr c.in_ok-i.i (c.args.addr - c.index-pieces-i.result.segment.base) c.word_of-2.result c.index-pieces-i.result c.self.invariant.parts may piece refl c.word_of-2.ensures))
