use Rattle.std.proofs.Common.{◌≡◌, ◌++◌, sym, ap, ◌∙◌}
use Rattle.jrn_text.specs.Journal.{header_text}
use Rattle.jrn_text.proofs.Meaning.{stripped, no_header, other_header, unspelled_header}
use Rattle.jrn_text.proofs.journal.first_line.Goals as goal

pub returns-in_default : goal.returns-in_default
returns-in_default c = no_header c.numbers_meant.result c.args.text.now c.numbers_meant.ensures c.in_default.is

pub returns-then-not-is_header : goal.returns-then-not-is_header
returns-then-not-is_header c =
    other_header c.numbers_meant.result c.args.text.now c.in-Some.harts c.in-Some.limit c.numbers_meant.ensures c.in-Some.is (sym c.is_header.ensures ∙ c.if-not-is_header.true)

pub returns-in-Some-strip_prefix : goal.returns-in-Some-strip_prefix
returns-in-Some-strip_prefix c =
    let header = header_text c.in-Some.harts c.in-Some.limit in
    let spelled = c.as_slice.ensures.value ∙ c.in_ok-push_header.ensures ∙ ap (λ t. t ++ header) c.clear.ensures.items in
    let cases = c.in-Some-strip_prefix.ensures.cases in
    (sym c.is_header.ensures ∙ c.if-not-is_header.false, stripped c.args.text.now c.as_slice.result.now c.in-Some-strip_prefix.rest.now cases.0 cases.1 ∙ ap (λ t. t ++ c.in-Some-strip_prefix.rest.now) spelled)

pub returns-in-None : goal.returns-in-None
returns-in-None c =
    let header = header_text c.in-Some.harts c.in-Some.limit in
    let spelled = c.as_slice.ensures.value ∙ c.in_ok-push_header.ensures ∙ ap (λ t. t ++ header) c.clear.ensures.items in
    unspelled_header c.numbers_meant.result c.args.text.now c.as_slice.result.now c.in-Some.harts c.in-Some.limit c.numbers_meant.ensures c.in-Some.is spelled c.in-None.ensures.cases
