use Rattle.std.proofs.Common.{◌≡◌, ◌++◌, sym, ap, ◌∙◌}
use Rattle.jrn_text.specs.Entries.{entry_line}
use Rattle.jrn_text.proofs.Meaning.{stripped, no_entry, other_entry, unspelled_entry}
use Rattle.jrn_text.proofs.journal.next_entry.Goals as goal

pub returns-in_default : goal.returns-in_default
returns-in_default c = no_entry c.args.harts c.entry_meant.result c.args.text.now c.requires c.entry_meant.ensures c.in_default.is

pub returns-then-not-is_entry : goal.returns-then-not-is_entry
returns-then-not-is_entry c =
    other_entry c.args.harts c.entry_meant.result c.args.text.now c.in-Some.entry c.requires c.entry_meant.ensures c.in-Some.is (sym c.is_entry.ensures ∙ c.if-not-is_entry.true)

pub returns-in-Some-strip_prefix : goal.returns-in-Some-strip_prefix
returns-in-Some-strip_prefix c =
    let line = entry_line c.in-Some.entry in
    let spelled = c.as_slice.ensures.value ∙ c.in_ok-push_entry.ensures ∙ ap (λ t. t ++ line) c.clear.ensures.items in
    let cases = c.in-Some-strip_prefix.ensures.cases in
    (sym c.is_entry.ensures ∙ c.if-not-is_entry.false, stripped c.args.text.now c.as_slice.result.now c.in-Some-strip_prefix.rest.now cases.0 cases.1 ∙ ap (λ t. t ++ c.in-Some-strip_prefix.rest.now) spelled)

pub returns-in-None : goal.returns-in-None
returns-in-None c =
    let line = entry_line c.in-Some.entry in
    let spelled = c.as_slice.ensures.value ∙ c.in_ok-push_entry.ensures ∙ ap (λ t. t ++ line) c.clear.ensures.items in
    unspelled_entry c.args.harts c.entry_meant.result c.args.text.now c.as_slice.result.now c.in-Some.entry c.requires c.entry_meant.ensures c.in-Some.is spelled c.in-None.ensures.cases
