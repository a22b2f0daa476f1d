use Rattle.std.proofs.Common.{refl}
use Rattle.clap.specs.Words.{rule_of}
use Rattle.program_words.proofs.Added.{has_rule}
use Rattle.program_words.proofs.arguments.with_argument.Goals as goal

pub returns : goal.returns
returns c = has_rule c.args.command c.args.argument (rule_of c.args.argument) c.arg.result refl c.requires c.arg.ensures
