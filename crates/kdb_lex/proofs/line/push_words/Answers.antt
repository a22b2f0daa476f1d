use Rattle.std.proofs.Common.{false, ◌+◌, ◌<◌, ◌≤◌, ◌++◌, drop, length, sym, ap, ◌∙◌, arith}
use Rattle.std.specs.List.{list_any}
use Rattle.std.proofs.lemmas.List.{drop_all}
use Rattle.kdb_lex.specs.Mark.{is_pipe}
use Rattle.kdb_lex.specs.Line.{marks}
use Rattle.kdb_lex.specs.declared.mark.Mark.TheVariants.{Pipe}
use Rattle.kdb_lex.proofs.Scan.{words_from, before, after, after_first-is_pipe, marks-drop, words-at_pipe, mark_of-Pipe}
use Rattle.kdb_lex.proofs.line.push_words.Goals as goal

pub returns-in-Pipe-clause-words : goal.returns-in-Pipe-clause-words
returns-in-Pipe-clause-words c =
    let line = c.args.line.now in
    let lt : c.loop-i.i < length line = omega arith in
    let here = marks-drop c.loop-i.quoted line c.loop-i.i Pipe lt (sym c.in-Pipe.ensures) in
    words-at_pipe line c.args.words.now.items c.end-in-Pipe.new.words.items
    (c.in_ok-end-in-Pipe.ensures.words
    ∙ ap (λ ms. c.loop-i.words.items ++ words_from c.loop-i.word (before ms)) (sym here)
    ∙ c.loop-i.invariant.words)

pub returns-in-Pipe-clause-behind : goal.returns-in-Pipe-clause-behind
returns-in-Pipe-clause-behind c =
    let line = c.args.line.now in
    let lt : c.loop-i.i < length line = omega arith in
    let here = marks-drop c.loop-i.quoted line c.loop-i.i Pipe lt (sym c.in-Pipe.ensures) in
    let plain = mark_of-Pipe c.loop-i.quoted _ (sym c.in-Pipe.ensures) in (
      sym c.loop-i.invariant.pipe ∙ ap (list_any is_pipe) here,
      ap (marks false) c.split_at.ensures.back
          ∙ ap (λ q. marks q (drop (c.loop-i.i + 1) line)) (sym plain)
          ∙ ap after (sym here)
          ∙ c.loop-i.invariant.behind
          ∙ sym (after_first-is_pipe (marks false line)),
    )

pub returns-clause-words : goal.returns-clause-words
returns-clause-words c =
    let line = c.args.line.now in
    let le : length line ≤ c.loop-i.i = omega arith in
    let none = drop_all c.loop-i.i line le in
    words-at_pipe line c.args.words.now.items c.end-2.new.words.items
    (c.in_ok-end.ensures.words
    ∙ ap (λ bs. c.loop-i.words.items ++ words_from c.loop-i.word (before (marks c.loop-i.quoted bs))) (sym none)
    ∙ c.loop-i.invariant.words)
