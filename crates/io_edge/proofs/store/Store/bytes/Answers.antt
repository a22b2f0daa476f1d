use Rattle.std.proofs.Common.{◌≡◌, Some, None, sym, ap, ◌∙◌}
use Rattle.std.specs.Option.{option_copied, option_or}
use Rattle.std.specs.Ordering.{nat_cmp}
use Rattle.std.specs.Cmp.Lexicographic.{slice_cmp}
use Rattle.std.specs.FinMap.{find, get}
use Rattle.io_edge.specs.Memory.{file_map, slot_bytes, slot_entries}
use Rattle.io_edge.proofs.Stores.{files-found}
use Rattle.io_edge.proofs.store.Store.bytes.Goals as goal

pub returns-in-Some : goal.returns-in-Some
returns-in-Some c =
    let name = c.args.name.now in
    let given = c.self.inside.given.items in
    let slots = c.self.inside.slots.items in
    let found : find (slice_cmp nat_cmp) name (slot_entries slot_bytes slots) ≡ Some c.in-Some.bytes.now = ap (λ ss. find (slice_cmp nat_cmp) name (slot_entries slot_bytes ss)) (sym c.as_slice.ensures.value) ∙ sym c.written_under.ensures ∙ ap option_copied c.in-Some.is in
    rw (← c.self.view_is) (sym (files-found given slots name ∙ ap (λ o. option_or o (get (file_map given) name)) found))

pub returns : goal.returns
returns c =
    let name = c.args.name.now in
    let given = c.self.inside.given.items in
    let slots = c.self.inside.slots.items in
    let found : find (slice_cmp nat_cmp) name (slot_entries slot_bytes slots) ≡ None = ap (λ ss. find (slice_cmp nat_cmp) name (slot_entries slot_bytes ss)) (sym c.as_slice.ensures.value) ∙ sym c.written_under.ensures ∙ ap option_copied c.in_default.is in
    rw (← c.self.view_is) (c.bytes_of_name.ensures ∙ ap (λ fs. get (file_map fs) name) c.as_slice-2.ensures.value ∙ sym (files-found given slots name ∙ ap (λ o. option_or o (get (file_map given) name)) found))
