use Rattle.std.proofs.Common.{arith, sym, ◌∙◌}
use Rattle.mach_base.proofs.Cuts.{words_of-word, words_of-whole, no_word_at, past_first}
use Rattle.mach_base.proofs.lines.word_end.Goals as goal

pub returns-then-is_blank-clause-some : goal.returns-then-is_blank-clause-some
returns-then-is_blank-clause-some c = past_first c.args.line.now c.loop-i.i c.requires.word (sym c.is_blank.ensures ∙ c.if-is_blank.true)

pub returns-then-is_blank-clause-word : goal.returns-then-is_blank-clause-word
returns-then-is_blank-clause-word c =
    let blank = sym c.is_blank.ensures ∙ c.if-is_blank.true in
    words_of-word c.args.line.now c.loop-i.i (past_first c.args.line.now c.loop-i.i c.requires.word blank) (omega arith) c.loop-i.invariant (no_word_at c.args.line.now c.loop-i.i c.loop-i-test.true blank)

pub returns-clause-word : goal.returns-clause-word
returns-clause-word c = words_of-whole c.args.line.now c.loop-i.i (omega arith) c.requires.some c.loop-i.invariant
