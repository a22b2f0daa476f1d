use Rattle.img_text.proofs.Grammar.{is_what_the_lines_mean}
use Rattle.img_text.proofs.laws.an_image_is_what_its_lines_give.Goals as goal

pub returns : goal.returns
returns c = is_what_the_lines_mean
