use Rattle.std.proofs.Common.{◌≡◌, ◌++◌, ◌∷◌, [], sym, ap, ◌∙◌, append-nil, append_assoc}
use Rattle.jrn_text.specs.Entries.{entry_line, lines_text}
use Rattle.jrn_text.specs.Journal.{header_text}
use Rattle.jrn_text.proofs.Lines.{lines-snoc}
use Rattle.jrn_text.proofs.journal.write_journal.Goals as goal

pub loop-entry-init : goal.loop-entry-init
loop-entry-init c =
    let header = header_text c.args.harts c.args.limit in
    record {
      told = c.in_ok-push_header.ensures ∙ ap (λ t. t ++ header) c.new-out.ensures.items ∙ sym (append-nil header);
      left = sym c.iter-entry-items.ensures ∙ sym c.into_iter-entry-iterator.ensures.into_iter_gives;
    }

pub loop-entry-preserved : goal.loop-entry-preserved
loop-entry-preserved c =
    let header = header_text c.args.harts c.args.limit in
    let done = c.loop-entry.yielded in
    let e = c.in-Some.entry in
    record {
      told = c.in_ok-push_entry.ensures ∙ ap (λ t. t ++ entry_line e) c.loop-entry.invariant.told ∙ append_assoc header (lines_text done) (entry_line e) ∙ ap (λ t. header ++ t) (sym (lines-snoc done e));
      left = c.loop-entry.invariant.left ∙ ap (λ t. done ++ t) c.in-Some.ensures.steps ∙ sym (append_assoc done (e ∷ []) c.next.new.self);
    }

pub returns : goal.returns
returns c =
    let header = header_text c.args.harts c.args.limit in
    let done = c.loop-entry.yielded in
    let all = c.loop-entry.invariant.left ∙ ap (λ t. done ++ t) c.in-None.ensures.steps.0 ∙ append-nil done in
    c.loop-entry.invariant.told ∙ ap (λ es. header ++ lines_text es) (sym all)
