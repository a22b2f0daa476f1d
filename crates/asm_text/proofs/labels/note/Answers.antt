use Rattle.std.proofs.Common.{◌≡◌, None, List, ℕ, sym, ap, ◌∙◌}
use Rattle.std.specs.Prelude.{is_some}
use Rattle.asm_text.specs.Labels.{given, labels_in, with_label}
use Rattle.asm_text.proofs.Tables.{labels_in-insert_entry, none_given, with_label-new}
use Rattle.asm_text.proofs.labels.note.Goals as goal

pub returns : goal.returns
returns c =
    let es = c.args.labels.now.entries in
    let key = c.in_ok-name.name in
    let items = c.in_ok-name.ensures.items in
    let none : given (labels_in es) key.items ≡ None = ap (given (labels_in es)) items ∙ (sym c.where_given.ensures ∙ none_given c.where_given.result (sym c.is_some.ensures ∙ c.if-is_some.false)) in
    ap labels_in c.in_ok-insert.ensures.entries
    ∙ labels_in-insert_entry es key c.args.there none
    ∙ with_label-new (labels_in es) key.items c.args.there (ap is_some none)
    ∙ ap (λ (n : List ℕ). with_label (labels_in es) n c.args.there) items
