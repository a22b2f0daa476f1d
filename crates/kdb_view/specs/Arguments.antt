-- The arguments of a command.
use Rattle.std.specs.Prelude.{ℕ, Bool, List, length, nat_lt, unwrap_or, Option, Some, None, Result, Ok, Err, if◌then◌else◌}
use Rattle.mach_base.specs.Machine.{LineState}
use Rattle.mach_base.specs.Sequence.{◌>>=◌}
use Rattle.kdb_expr.specs.declared.eval_fault.EvalFault.{EvalFault}
use Rattle.kdb_expr.specs.declared.eval_fault.EvalFault.TheVariants.{NotFound, BadNumber as BadNumberWord, BadReg}
use Rattle.kdb_expr.specs.Expression.{value_of}
use Rattle.kdb_table.specs.declared.diagnostics.Diagnostic.{Diagnostic}
use Rattle.kdb_table.specs.declared.diagnostics.Diagnostic.TheVariants.{UnknownName, BadRegister, BadNumber, BadCount}
use Rattle.kdb_view.specs.declared.arguments.Values.{Values}
use Rattle.kdb_table.specs.Words.{word_at}
use Rattle.kdb_view.specs.Scope.{scope_of, line_count_in}
use Rattle.kdb_table.specs.Table.{count_within}

-- the diagnostic of the word at a place that has no value
abbrev pub fault_diagnostic : ℕ → EvalFault → Diagnostic
fault_diagnostic place NotFound = UnknownName place
fault_diagnostic place BadNumberWord = BadNumber place
fault_diagnostic place BadReg = BadRegister place

-- the value of a word, or the diagnostic
abbrev pub value_or_diagnostic : ℕ → Result ℕ EvalFault → Result ℕ Diagnostic
value_or_diagnostic place (Ok value) = Ok value
value_or_diagnostic place (Err fault) = Err (fault_diagnostic place fault)

-- the value of the word at a place of the line
unfoldable pub argument : LineState → List (List ℕ) → ℕ → Result ℕ Diagnostic
argument s words place = value_or_diagnostic place (value_of (scope_of s) (word_at words place))

-- the value of the word at a place, if the line has that word
abbrev pub argument_if_there : LineState → List (List ℕ) → ℕ → Result (Option ℕ) Diagnostic
argument_if_there s words place =
    if nat_lt place (length words) then (argument s words place >>= λ value. Ok (Some value)) else Ok None

-- the values of the arguments, of which there are at most two, from left to right
unfoldable pub expressions : LineState → List (List ℕ) → Result Values Diagnostic
expressions s words =
    argument_if_there s words 1 >>= λ first. argument_if_there s words 2 >>= λ second. Ok (record { first = first; second = second })

-- the values of the arguments, where they are expressions
unfoldable pub values_of : LineState → List (List ℕ) → Bool → Result Values Diagnostic
values_of s words are_expressions = if are_expressions then expressions s words else Ok (record { first = None; second = None })

-- the first value; the table sees to it that each command that reads it has one
abbrev pub address : Values → ℕ
address v = unwrap_or v.first 0

-- a count, or the diagnostic of one that is out of its range
abbrev pub count_or_diagnostic : Option ℕ → Result ℕ Diagnostic
count_or_diagnostic None = Err BadCount
count_or_diagnostic (Some count) = Ok count

-- a count, which is from 1 to the most that there may be
unfoldable pub count_wanted : ℕ → ℕ → Result ℕ Diagnostic
count_wanted count most = count_or_diagnostic (count_within most count)

-- the number of lines that the argument `[E]` names, MDCOUNT where it is left out
unfoldable pub lines_wanted : LineState → Option ℕ → Result ℕ Diagnostic
lines_wanted s None = Ok (line_count_in s.variables)
lines_wanted s (Some count) = count_wanted count 256
