use Rattle.std.proofs.Common.{◌≡◌, sym}
use Rattle.std.specs.Prelude.{Some}
use Rattle.std.proofs.lemmas.Result.{err_from_is_err_and}
use Rattle.mach_base.specs.Machine.{memory_of}
use Rattle.mem_map.specs.declared.rights.Access.TheVariants.{Store}
use Rattle.mem_map.specs.Access.{access_fault}
use Rattle.mem_map.specs.Parts.{IsAllowedIn}
use Rattle.mem_map.proofs.Writes.{store_fault-Some, store_fault-None}
use Rattle.mem_map.proofs.memory.Map.storable.Goals as goal

pub returns-in_err-_place : goal.returns-in_err-_place
returns-in_err-_place c =
    let fault : access_fault (memory_of c.self.inside.pieces.items) Store c.args.addr c.args.width ≡ Some c.in_err-_place.field-0.0 = rw (← c.as_slice.ensures.value) c.in_err-_place.ensures in
    let p = err_from_is_err_and c.from_residual.result c.from_residual.ensures.1 in
    rw (p.1, p.2, ← c.self.view_is) (sym (store_fault-Some (memory_of c.self.inside.pieces.items) c.args.addr c.args.width c.in_err-_place.field-0.0 fault))

pub returns : goal.returns
returns c =
    let may : IsAllowedIn c.self.inside.pieces.items Store c.args.addr c.args.width c.in_ok-_place._place = rw (← c.as_slice.ensures.value) c.in_ok-_place.ensures in
    rw (← c.self.view_is) (sym (store_fault-None c.self.inside.pieces.items c.args.addr c.args.width c.in_ok-_place._place may))
