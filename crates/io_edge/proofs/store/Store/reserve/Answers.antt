use Rattle.std.proofs.Common.{sym, ap, ◌∙◌, ◌≡◌, Some, None}
use Rattle.std.specs.Prelude.{position}
use Rattle.std.proofs.lemmas.Result.{on_ok_weaker}
use Rattle.io_edge.proofs.Stores.{is_named, KeepsRoom-set, HasRoom-set, KeepsRoom-push, HasRoom-push, files-set_same, files-push}
use Rattle.io_edge.proofs.store.Store.reserve.Goals as goal

pub returns-in-Some-clause-room_made : goal.returns-in-Some-clause-room_made
returns-in-Some-clause-room_made c =
    let found : position (is_named c.args.name.now) c.self.inside.slots.items ≡ Some c.in-Some.slot = ap (position (is_named c.args.name.now)) (sym c.as_slice.ensures.value) ∙ sym c.slot_of.ensures ∙ c.in-Some.is in
    on_ok_weaker c.reserve.result (HasRoom-set c.args.name.now c.self.inside.slots.items c.in-Some.slot c.index_mut.result.now c.reserve.new.self c.args.size found c.index_mut.ensures.value c.reserve.ensures.name) c.reserve.ensures.room

pub returns-in-Some-clause-room_kept : goal.returns-in-Some-clause-room_kept
returns-in-Some-clause-room_kept c =
    let found : position (is_named c.args.name.now) c.self.inside.slots.items ≡ Some c.in-Some.slot = ap (position (is_named c.args.name.now)) (sym c.as_slice.ensures.value) ∙ sym c.slot_of.ensures ∙ c.in-Some.is in
    rw (← c.self.view_is) (KeepsRoom-set c.args.name.now c.self.inside.slots.items c.in-Some.slot c.index_mut.result.now c.reserve.new.self found c.index_mut.ensures.value c.reserve.ensures.name c.reserve.ensures.kept)

pub returns-in-Some-clause-files : goal.returns-in-Some-clause-files
returns-in-Some-clause-files c =
    let found : position (is_named c.args.name.now) c.self.inside.slots.items ≡ Some c.in-Some.slot = ap (position (is_named c.args.name.now)) (sym c.as_slice.ensures.value) ∙ sym c.slot_of.ensures ∙ c.in-Some.is in
    rw (← c.self.view_is) (files-set_same c.self.inside.given.items c.args.name.now c.self.inside.slots.items c.in-Some.slot c.index_mut.result.now c.reserve.new.self found c.index_mut.ensures.value c.reserve.ensures.name c.reserve.ensures.bytes)

pub returns-in_ok-push-in-None-clause-room_made : goal.returns-in_ok-push-in-None-clause-room_made
returns-in_ok-push-in-None-clause-room_made c =
    let none : position (is_named c.args.name.now) c.self.inside.slots.items ≡ None = ap (position (is_named c.args.name.now)) (sym c.as_slice.ensures.value) ∙ sym c.slot_of.ensures ∙ c.in-None.is in
    rw c.in_ok-push-in-None.ensures.items (HasRoom-push c.args.name.now c.self.inside.slots.items c.in_ok-slot-in-None.slot c.args.size none c.in_ok-slot-in-None.ensures.name c.in_ok-slot-in-None.ensures.room)

pub returns-in_ok-push-in-None-clause-room_kept : goal.returns-in_ok-push-in-None-clause-room_kept
returns-in_ok-push-in-None-clause-room_kept c =
    rw (← c.self.view_is, c.in_ok-push-in-None.ensures.items) (KeepsRoom-push c.self.inside.slots.items c.in_ok-slot-in-None.slot)

pub returns-in_ok-push-in-None-clause-files : goal.returns-in_ok-push-in-None-clause-files
returns-in_ok-push-in-None-clause-files c =
    rw (← c.self.view_is, c.in_ok-push-in-None.ensures.items) (files-push c.self.inside.given.items c.self.inside.slots.items c.in_ok-slot-in-None.slot c.in_ok-slot-in-None.ensures.bytes)
