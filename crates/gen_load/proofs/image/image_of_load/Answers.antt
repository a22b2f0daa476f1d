use Rattle.std.proofs.Common.{◌∙◌}
use Rattle.gen_load.specs.Input.{image_text}
use Rattle.gen_load.proofs.image.image_of_load.Goals as goal

pub returns : goal.returns
unfolding image_text
returns c = c.from_vec.ensures ∙ c.in_ok-bytes.ensures.items
