use Rattle.img_text.proofs.Grammar.{names_the_first_bad_line}
use Rattle.img_text.proofs.laws.an_image_names_its_first_bad_line.Goals as goal

pub returns : goal.returns
returns c = names_the_first_bad_line
