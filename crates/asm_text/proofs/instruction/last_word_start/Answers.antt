use Rattle.asm_text.proofs.Splits.{split_found, split_end}
use Rattle.asm_text.proofs.instruction.last_word_start.Goals as goal

pub returns-then-last-eq32-clause-split : goal.returns-then-last-eq32-clause-split
returns-then-last-eq32-clause-split c = split_found c.args.line.now c.loop-last.left.now c.in-Some.front.now c.in-Some.last.now c.in-Some.ensures.cases.0 c.if-last-eq32.true c.loop-last.invariant.split

pub returns-clause-split : goal.returns-clause-split
returns-clause-split c = split_end c.args.line.now c.loop-last.left.now c.in_default.ensures.cases c.loop-last.invariant.split
