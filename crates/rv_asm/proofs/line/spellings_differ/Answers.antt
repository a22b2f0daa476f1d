use Rattle.rv_asm.proofs.Inverse.{insn_text_injective}
use Rattle.rv_asm.proofs.line.spellings_differ.Goals as goal

pub returns : goal.returns
returns c = insn_text_injective
