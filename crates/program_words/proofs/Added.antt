-- What adding an argument makes of a command.
use Rattle.std.proofs.Common.{◌≡◌, ◌∙◌, ◌||◌, Bool, false, IfOk, Result, Ok, Err, ap, ap₂}
use Rattle.clap.specs.Walk.{Rule, rule_of}
use Rattle.clap.specs.Simple.{App, app_of, with_rule, with_subcommand}
use Rattle.clap.specs.Built.{AddsArg}
use Rattle.clap.specs.declared.builder.arg.Arg.{Arg}
use Rattle.clap.specs.declared.builder.command.Command.{Command}
use Rattle.clap.specs.declared.builder.command.Command.TheViews.{out-Command as fields_of}
use Rattle.program_words.specs.Words.{Row}
use Rattle.program_words.specs.Parser.{HasCommand, HasRule, IsParser, IsRow, row_command}
use Rattle.program_words.proofs.RowRules.{or_false}

pub has_rule : {E : Type 0} (old : Command) (a : Arg) (rule : Rule) (r : Result Command E) → rule_of a ≡ rule → a.global ≡ false → IfOk r (AddsArg old a) → IfOk r (HasRule old rule)
has_rule old a rule (Ok new) is local added = record {
  app_is = added.shape local ∙ ap (with_rule (app_of old)) is;
  local = added.globals ∙ (ap (λ (b : Bool). (fields_of old).has_globals || b) local ∙ or_false (fields_of old).has_globals);
}
has_rule old a rule (Err e) is local added = tt

-- the program with the command of a row more
pub has_command : (old command new : Command) (app : App) (row : Row) → IsParser old app → IsRow row command → HasCommand old command new
    → IsParser new (with_subcommand app (row_command row))
has_command old command new app row is of adds =
    let made : IsParser new (with_subcommand (app_of old) (app_of command).top) = adds is.local of.local in
    record {
      app_is = made.app_is ∙ ap₂ (λ (x y : App). with_subcommand x y.top) is.app_is of.app_is;
      local = made.local;
    }
