-- The commands about variables.
use Rattle.std.specs.Prelude.{ℕ, zero, suc, ◌+◌, ◌==◌, List, [], ◌++◌, codes, length, take, drop, position, slice_index_or, Option, Some, None, Result, Ok, Err, if◌then◌else◌}
use Rattle.mach_base.specs.Texts.{newline}
use Rattle.kdb_env.specs.declared.env_fault.EnvFault.{EnvFault}
use Rattle.kdb_env.specs.declared.env_fault.EnvFault.TheVariants as fault
use Rattle.kdb_env.specs.Variables.{Variables, refusal_of, with_value}
use Rattle.kdb_table.specs.declared.diagnostics.Diagnostic.{Diagnostic}
use Rattle.kdb_table.specs.declared.diagnostics.Diagnostic.TheVariants as diagnostic

-- the line of a variable: its name, = and its value
unfoldable pub variable_line : List ℕ × List ℕ → List ℕ
variable_line v = v.0 ++ (codes "=" ++ (v.1 ++ newline))

-- the lines of the first variables
abbrev pub first_lines : Variables → ℕ → List ℕ
first_lines vars zero = []
first_lines vars (suc n) = first_lines vars n ++ variable_line (slice_index_or vars n ([], []))

-- a line for each variable, in order
unfoldable pub variables_text : Variables → List ℕ
variables_text vars = first_lines vars (length vars)

-- the name before this place of a word, and the value after it; there must be a name
abbrev pub assignment_at : List ℕ → Option ℕ → Result (List ℕ × List ℕ) Diagnostic
assignment_at word None = Err diagnostic.WrongArguments
assignment_at word (Some place) = if place == 0 then Err diagnostic.WrongArguments else Ok (take place word, drop (place + 1) word)

-- the name before the first = of a word, and the value after it
abbrev pub assignment_of : List ℕ → Result (List ℕ × List ℕ) Diagnostic
assignment_of word = assignment_at word (position (λ b. b == 61) word)

-- the diagnostic of a variable that isn't set; out of memory has none
abbrev pub env_diagnostic : EnvFault → Diagnostic
env_diagnostic fault.BadName = diagnostic.BadName 1
env_diagnostic fault.BadRadix = diagnostic.BadRadix
env_diagnostic fault.BadWidth = diagnostic.BadWidth
env_diagnostic fault.BadCount = diagnostic.BadCount
env_diagnostic fault.Full = diagnostic.TooManyVariables
env_diagnostic fault.OutOfMemory = diagnostic.TooManyVariables

-- the variables, unless they are refused
abbrev pub variables_unless : Option EnvFault → Variables → Result Variables Diagnostic
variables_unless None vars = Ok vars
variables_unless (Some why) vars = Err (env_diagnostic why)

-- the variables once this name has this value
unfoldable pub variables_after : Variables → List ℕ × List ℕ → Result Variables Diagnostic
variables_after vars pair = variables_unless (refusal_of vars pair.0 pair.1) (with_value vars pair.0 pair.1)
