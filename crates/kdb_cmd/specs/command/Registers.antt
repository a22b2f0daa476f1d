-- The commands about registers.
use Rattle.std.specs.Prelude.{ℕ, List, Option, Some, None, Result, Ok, Err, if◌then◌else◌}
use Rattle.mach_base.specs.Machine.{LineState}
use Rattle.hart_ctx.specs.declared.register_name.RegName.{RegName}
use Rattle.hart_ctx.specs.RegisterName.{register_named}
use Rattle.kdb_reg.specs.Registers.{is_zero, with_named, set_text}
use Rattle.kdb_table.specs.declared.diagnostics.Diagnostic.{Diagnostic}
use Rattle.kdb_table.specs.declared.diagnostics.Diagnostic.TheVariants.{BadRegister}
use Rattle.kdb_cmd.specs.declared.outcomes.Outcome.TheVariants.{Stay}
use Rattle.kdb_cmd.specs.declared.command.registers.RegisterWrite.{RegisterWrite}
use Rattle.kdb_view.specs.State.{current_context}
use Rattle.kdb_cmd.specs.Answer.{Answer, with_current}
use Rattle.kdb_table.specs.Words.{word_at}
use Rattle.mach_base.specs.Sequence.{◌>>=◌}
use Rattle.kdb_view.specs.Arguments.{argument}

-- the register of this name, or the diagnostic
abbrev pub register_or_diagnostic : ℕ → Option RegName → Result RegName Diagnostic
register_or_diagnostic place None = Err (BadRegister place)
register_or_diagnostic place (Some reg) = Ok reg

-- the register that the word at a place of the line names
unfoldable pub register_argument : List (List ℕ) → ℕ → Result RegName Diagnostic
register_argument words place = register_or_diagnostic place (register_named (word_at words place))

-- the register and the value of `rm REG E`
unfoldable pub rm_wanted : LineState → List (List ℕ) → Result RegisterWrite Diagnostic
rm_wanted s words = register_argument words 1 >>= λ reg. argument s words 2 >>= λ value. Ok (record { reg = reg; value = value })

-- the register of the current processor is set; x0 is refused
abbrev pub register_set : LineState → RegisterWrite → Result Answer Diagnostic
register_set s wanted =
    if is_zero wanted.reg then Err (BadRegister 1)
    else Ok (record { output = set_text wanted.reg wanted.value; state = with_current s (with_named (current_context s) wanted.reg wanted.value); outcome = Stay })

-- `rm REG E`
unfoldable pub rm_answer : List (List ℕ) → LineState → Result Answer Diagnostic
rm_answer words s = rm_wanted s words >>= register_set s
