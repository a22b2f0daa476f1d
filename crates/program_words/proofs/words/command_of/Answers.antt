use Rattle.std.proofs.Common.{map}
use Rattle.std.specs.String.{string_bytes}
use Rattle.program_words.specs.Views.{command_view}
use Rattle.program_words.proofs.words.command_of.Goals as goal

pub returns-clause-within : goal.returns-clause-within
returns-clause-within c =
    c.requests_are_within_bounds.ensures (map string_bytes c.args.words.now) (command_view c.in_ok-command.command) c.in_ok-command.ensures.ok
