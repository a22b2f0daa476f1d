-- The command that sets a variable.
use Rattle.std.specs.Prelude.{ℕ, List, [], Result, Ok}
use Rattle.mach_base.specs.Machine.{LineState}
use Rattle.mach_base.specs.Sequence.{◌>>=◌}
use Rattle.kdb_table.specs.declared.diagnostics.Diagnostic.{Diagnostic}
use Rattle.kdb_view.specs.Variables.{variables_after}
use Rattle.kdb_cmd.specs.declared.outcomes.Outcome.TheVariants.{Stay}
use Rattle.kdb_cmd.specs.Answer.{Answer}

-- `set NAME VALUE`
abbrev pub set_answer : List ℕ × List ℕ → LineState → Result Answer Diagnostic
set_answer pair s = variables_after s.variables pair >>= λ vars. Ok (record { output = []; state = record s { variables = vars }; outcome = Stay })
