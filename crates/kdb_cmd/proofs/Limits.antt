-- Variables and macros keep their limits.
use Rattle.std.proofs.Common.{◌≡◌, ℕ, ◌-◌, ◌<◌, Bool, true, false, cond, List, length, Option, Some, None, Result, Ok, Err, nat_le, refl, sym, arith}
use Rattle.std.specs.Prelude.{IfOk}
use Rattle.std.proofs.lemmas.Bool.Decides.{nat_tests}
use Rattle.mach_base.specs.declared.limits.TheConstants.{MACRO_LINES}
use Rattle.mach_base.specs.Lines.{words_of}
use Rattle.kdb_env.specs.declared.env_fault.EnvFault.{EnvFault}
use Rattle.kdb_env.specs.Variables.{Variables, AreVariables, with_value, refusal_of}
use Rattle.kdb_env.proofs.Allowed.{AreVariables-with_value}
use Rattle.kdb_macro.specs.declared.macro_fault.MacroFault.{MacroFault}
use Rattle.kdb_macro.specs.declared.macro_fault.MacroFault.TheVariants.{Full}
use Rattle.kdb_macro.specs.Macros.{MacroList, AreMacros, begin_refusal, begun, add_refusal, with_line, last_macro}
use Rattle.kdb_macro.proofs.Limits.{AreMacros-begun, AreMacros-with_line}
use Rattle.kdb_table.specs.declared.commands.Entry.TheVariants.{Define}
use Rattle.kdb_table.specs.declared.diagnostics.Diagnostic.{Diagnostic}
use Rattle.kdb_table.specs.declared.diagnostics.Diagnostic.TheVariants.{WrongArguments}
use Rattle.kdb_table.specs.Words.{word_at}
use Rattle.kdb_table.specs.Table.{takes}
use Rattle.kdb_view.specs.Variables.{variables_unless, variables_after}
use Rattle.kdb_cmd.specs.MacroDefinition.{is_end, is_reserved, macros_unless, macros_after_line, macros_after_defcmd}

variables_unless-are : (vars : Variables) (name value : List ℕ) (o : Option EnvFault) → o ≡ refusal_of vars name value → IfOk (variables_unless o (with_value vars name value)) (λ new. AreVariables vars → AreVariables new)
variables_unless-are vars name value (Some why) is = tt
variables_unless-are vars name value None is = λ are. AreVariables-with_value vars name value are (sym is)

pub variables_after-are : (vars : Variables) (pair : List ℕ × List ℕ) → IfOk (variables_after vars pair) (λ new. AreVariables vars → AreVariables new)
unfolding variables_after
variables_after-are vars pair = variables_unless-are vars pair.0 pair.1 (refusal_of vars pair.0 pair.1) refl

-- the macros are within their limits if they were before; a refusal says nothing
abbrev pub StayMacros : MacroList → Result MacroList Diagnostic → Type 0
StayMacros m r = IfOk r (λ new. AreMacros m → AreMacros new)

either-macros : (m : MacroList) (test : Bool) (r other : Result MacroList Diagnostic) → StayMacros m r → StayMacros m other → StayMacros m (cond test r other)
either-macros m true r other p q = p
either-macros m false r other p q = q

begun_unless-are : (m : MacroList) (name : List ℕ) (o : Option MacroFault) → o ≡ begin_refusal m.macros name (is_reserved name) → StayMacros m (macros_unless o (begun m name))
begun_unless-are m name (Some why) is = tt
begun_unless-are m name None is = λ are. AreMacros-begun m m.macros name (is_reserved name) are refl is

pub macro_begun-are : (m : MacroList) (words : List (List ℕ)) → StayMacros m (macros_after_defcmd m words)
unfolding macros_after_defcmd
macro_begun-are m words =
    let name = word_at words 1 in
    either-macros m (takes (length words - 1) Define) (macros_unless (begin_refusal m.macros name (is_reserved name)) (begun m name)) (Err WrongArguments) (begun_unless-are m name (begin_refusal m.macros name (is_reserved name)) refl) tt

add_unless-are : (m : MacroList) (line : List ℕ) (full : Bool) → nat_le MACRO_LINES (length (last_macro m.macros).lines) ≡ full → StayMacros m (macros_unless (cond full (Some Full) None) (with_line m line))
add_unless-are m line true is = tt
add_unless-are m line false is = λ are.
    let room : length (last_macro m.macros).lines < MACRO_LINES = grind (arith, nat_tests) in
    AreMacros-with_line m line are room

pub line_stored-are : (m : MacroList) (line : List ℕ) → StayMacros m (macros_after_line m line)
unfolding macros_after_line
line_stored-are m line =
    either-macros m (is_end (words_of line)) (Ok (record m { defining = false })) (macros_unless (add_refusal m.macros) (with_line m line)) (λ are. record { few = are.few; short = are.short; begun = λ is. absurd (cc) }) (add_unless-are m line (nat_le MACRO_LINES (length (last_macro m.macros).lines)) refl)
