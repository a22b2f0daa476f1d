use Rattle.std.proofs.Common.{arith, sym}
use Rattle.asm_text.proofs.Words.{word_of-insn_text, no_word}
use Rattle.asm_text.proofs.instruction.word_of.Goals as goal

pub returns-in-Some : goal.returns-in-Some
returns-in-Some c = sym (word_of-insn_text c.args.line.now c.in-Some.word (omega arith) c.in-Some.ensures.spelling)

pub returns-in-None : goal.returns-in-None
returns-in-None c = sym (no_word c.args.line.now (λ word small is. let found = c.assemble_line.ensures.read word small is in let none = c.in-None.is in absurd (cc)))
