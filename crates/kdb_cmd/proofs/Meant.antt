-- What is printed where a command's answer is the one that is meant.
use Rattle.std.proofs.Common.{ℕ, List, Result, Ok, Err, IfOk, ap, sym, ◌∙◌}
use Rattle.mach_base.specs.Machine.{Memory, LineState}
use Rattle.mach_base.specs.declared.byte_text.OutOfMemory.{OutOfMemory}
use Rattle.kdb_table.specs.declared.diagnostics.Diagnostic.{Diagnostic}
use Rattle.kdb_table.specs.declared.refusals.Refusal.{Refusal}
use Rattle.kdb_table.specs.declared.refusals.Refusal.TheVariants.{Diagnosed, OutOfMemory as NoMemory}
use Rattle.kdb_cmd.specs.declared.outcomes.Said.{Said}
use Rattle.kdb_cmd.specs.declared.desk.Desk.{Desk}
use Rattle.kdb_cmd.specs.declared.desk.Gathering.{Gathering}
use Rattle.kdb_cmd.specs.Answer.{Answer, answer_with}
use Rattle.kdb_cmd.specs.Desk.{desk_state, Changes, Says}
use Rattle.kdb_cmd.specs.Meanings.{answer_or_line}
use Rattle.kdb_cmd.specs.Output.{IsPrinted}

-- what is printed of a command's answer is what the line shall say
pub says_from : {M : Type 0} (memory : M → Memory) (words : List (List ℕ)) (meant : Result Said Refusal) (result : Result Said OutOfMemory) (before after : Desk M) (meaning : Gathering → LineState → Result Answer Diagnostic) → Changes memory meant before after meaning → IfOk result (IsPrinted words meant) → Says memory result before after (λ g s. answer_or_line words s (meaning g s))
says_from memory words (Ok meant) (Ok said) before after meaning changes printed =
    ap (answer_or_line words (desk_state memory before)) changes ∙ ap (λ (s : Said). answer_with s (desk_state memory after)) (sym printed)
says_from memory words (Err (Diagnosed d)) (Ok said) before after meaning changes printed =
    ap (answer_or_line words (desk_state memory before)) changes.0
    ∙ (λ i. record { output = sym printed.0 i; state = sym changes.1 i; outcome = sym printed.1 i })
says_from memory words (Err NoMemory) (Ok said) before after meaning changes printed = absurd printed
says_from memory words meant (Err error) before after meaning changes printed = tt
