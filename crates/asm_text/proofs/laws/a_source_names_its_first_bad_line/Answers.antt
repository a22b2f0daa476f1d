use Rattle.asm_text.proofs.Texts.{names_the_first_bad_line}
use Rattle.asm_text.proofs.laws.a_source_names_its_first_bad_line.Goals as goal

pub returns : goal.returns
returns c = names_the_first_bad_line
