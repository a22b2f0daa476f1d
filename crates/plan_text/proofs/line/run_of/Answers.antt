use Rattle.std.proofs.Common.{sym, ◌∙◌}
use Rattle.mach_base.specs.Lines.{words_of}
use Rattle.plan_text.proofs.Words.{words_more, words_ended, words_end}
use Rattle.plan_text.proofs.line.run_of.Goals as goal

pub returns-in_default-hart_of : goal.returns-in_default-hart_of
returns-in_default-hart_of c =
    let read = sym c.hart_of.ensures ∙ c.in_default-hart_of.is in
    c.ended.ensures ∙ sym (words_ended c.args.harts c.loop-word.found.items (words_of c.loop-word.left.now) c.in-Some.word.now (words_of c.in-Some.rest.now) _ c.in-Some.ensures.word read c.loop-word.invariant)

pub loop-word-preserved : goal.loop-word-preserved
loop-word-preserved c =
    let read = sym c.hart_of.ensures ∙ c.in-Some-hart_of.is in
    rw c.in_ok-push.ensures.items (words_more c.args.harts c.loop-word.found.items c.in-Some-hart_of.hart (words_of c.loop-word.left.now) c.in-Some.word.now (words_of c.in-Some.rest.now) _ c.in-Some.ensures.word read c.loop-word.invariant)

pub returns : goal.returns
returns c = c.of_harts.ensures ∙ sym (words_end c.args.harts c.loop-word.found.items (words_of c.loop-word.left.now) _ c.in_default.ensures.word c.loop-word.invariant)
