use Rattle.asm_text.proofs.Texts.{counts_its_memory}
use Rattle.asm_text.proofs.laws.a_source_counts_its_memory.Goals as goal

pub returns : goal.returns
returns c = counts_its_memory
