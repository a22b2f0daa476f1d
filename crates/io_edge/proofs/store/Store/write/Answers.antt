use Rattle.std.proofs.Common.{sym, ap, ◌∙◌, ◌≡◌, Some, None}
use Rattle.std.specs.Prelude.{position}
use Rattle.io_edge.proofs.Stores.{is_named, KeepsOtherRoom-set, room_here, no_room, files-set}
use Rattle.io_edge.proofs.store.Store.write.Goals as goal

pub write-requires : goal.write-requires
write-requires c =
    let found : position (is_named c.args.name.now) c.self.inside.slots.items ≡ Some c.in-Some.slot = ap (position (is_named c.args.name.now)) (sym c.as_slice.ensures.value) ∙ sym c.slot_of.ensures ∙ c.in-Some.is in
    room_here c.args.name.now c.self.inside.slots.items c.in-Some.slot c.index_mut.result.now _ found c.index_mut.ensures.value (rw (← c.self.view_is) at c.requires)

pub unreachable-requires : goal.unreachable-requires
unreachable-requires c =
    let none : position (is_named c.args.name.now) c.self.inside.slots.items ≡ None = ap (position (is_named c.args.name.now)) (sym c.as_slice.ensures.value) ∙ sym c.slot_of.ensures ∙ c.in-None.is in
    no_room c.args.name.now c.self.inside.slots.items _ none (rw (← c.self.view_is) at c.requires)

pub returns-clause-files : goal.returns-clause-files
returns-clause-files c =
    let found : position (is_named c.args.name.now) c.self.inside.slots.items ≡ Some c.in-Some.slot = ap (position (is_named c.args.name.now)) (sym c.as_slice.ensures.value) ∙ sym c.slot_of.ensures ∙ c.in-Some.is in
    rw (← c.self.view_is) (files-set c.self.inside.given.items c.args.name.now c.args.bytes.now c.self.inside.slots.items c.in-Some.slot c.index_mut.result.now c.write.new.self found c.index_mut.ensures.value c.write.ensures.name c.write.ensures.bytes)

pub returns-clause-room_kept : goal.returns-clause-room_kept
returns-clause-room_kept c =
    let found : position (is_named c.args.name.now) c.self.inside.slots.items ≡ Some c.in-Some.slot = ap (position (is_named c.args.name.now)) (sym c.as_slice.ensures.value) ∙ sym c.slot_of.ensures ∙ c.in-Some.is in
    rw (← c.self.view_is) (KeepsOtherRoom-set c.args.name.now c.self.inside.slots.items c.in-Some.slot c.index_mut.result.now c.write.new.self found c.index_mut.ensures.value c.write.ensures.name)
