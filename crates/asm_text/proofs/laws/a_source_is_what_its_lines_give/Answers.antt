use Rattle.asm_text.proofs.Texts.{is_what_the_lines_mean}
use Rattle.asm_text.proofs.laws.a_source_is_what_its_lines_give.Goals as goal

pub returns : goal.returns
returns c = is_what_the_lines_mean
