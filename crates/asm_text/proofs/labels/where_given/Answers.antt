use Rattle.std.proofs.Common.{◌∙◌}
use Rattle.asm_text.proofs.Tables.{given-labels_in}
use Rattle.asm_text.proofs.labels.where_given.Goals as goal

pub returns-in-Some : goal.returns-in-Some
returns-in-Some c = c.in-Some.ensures.value ∙ given-labels_in c.args.labels.now.entries c.args.name.now

pub returns-in-None : goal.returns-in-None
returns-in-None c = c.in-None.ensures.value ∙ given-labels_in c.args.labels.now.entries c.args.name.now
