use Rattle.std.proofs.Common.{false, ◌++◌, inr, refl, sym, ap, ◌∙◌}
use Rattle.std.specs.List.{before_first}
use Rattle.kdb_lex.specs.Mark.{is_pipe}
use Rattle.kdb_lex.specs.Line.{marks, words_of}
use Rattle.kdb_lex.proofs.Scan.{filter_pattern-no_pipe}
use Rattle.kdb_lex.proofs.line.filter.Goals as goal

pub returns-in-Some-clause-ok : goal.returns-in-Some-clause-ok
returns-in-Some-clause-ok c =
    let ms = marks false c.args.line.now in
    let none = rw c.in-None.is at c.in_ok-push_words.ensures.behind in
    let is = c.in_ok-push_words.ensures.words ∙ ap (λ ws. ws ++ words_of (before_first is_pipe ms)) c.new-words.ensures.items in
    filter_pattern-no_pipe ms c.push_words.new.words.items none is ∙ sym c.pattern_of.ensures ∙ c.in-Some.is

pub returns-in-None-pattern_of-clause-err : goal.returns-in-None-pattern_of-clause-err
returns-in-None-pattern_of-clause-err c =
    let ms = marks false c.args.line.now in
    let none = rw c.in-None.is at c.in_ok-push_words.ensures.behind in
    let is = c.in_ok-push_words.ensures.words ∙ ap (λ ws. ws ++ words_of (before_first is_pipe ms)) c.new-words.ensures.items in
    inr (refl, filter_pattern-no_pipe ms c.push_words.new.words.items none is ∙ sym c.pattern_of.ensures ∙ c.in-None-pattern_of.is)
