use Rattle.img_text.proofs.Grammar.{counts_its_memory}
use Rattle.img_text.proofs.laws.an_image_counts_its_memory.Goals as goal

pub returns : goal.returns
returns c = counts_its_memory
