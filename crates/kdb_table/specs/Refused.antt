-- Commands that can be refused.
use Rattle.std.specs.Prelude.{◌≡◌, Result, Ok, Err}
use Rattle.kdb_table.specs.declared.diagnostics.Diagnostic.{Diagnostic}
use Rattle.kdb_table.specs.declared.refusals.Refusal.{Refusal}
use Rattle.kdb_table.specs.declared.refusals.Refusal.TheVariants.{Diagnosed, OutOfMemory}

-- a diagnostic is the one that is meant; out of memory says nothing
abbrev pub Refuses : {A : Type 0} → Refusal → Result A Diagnostic → Type 0
Refuses (Diagnosed d) meaning = meaning ≡ Err d
Refuses OutOfMemory meaning = Unit {0}

-- what is given, or the diagnostic, is what is meant
abbrev pub Answers : {A : Type 0} → Result A Refusal → Result A Diagnostic → Type 0
Answers (Ok given) meaning = meaning ≡ Ok given
Answers (Err refusal) meaning = Refuses refusal meaning
