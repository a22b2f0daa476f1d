use Rattle.std.proofs.Common.{◌∙◌}
use Rattle.kdb_grep.proofs.Stands.{stands_in-find}
use Rattle.kdb_grep.proofs.line_match.contains.Goals as goal

pub returns : goal.returns
returns c = c.is_some.ensures ∙ stands_in-find c.args.line.now c.args.text.now c.find.result c.find.ensures
