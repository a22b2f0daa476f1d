-- What the debugger starts with keeps its limits.
use Rattle.std.proofs.Common.{◌≡◌, ℕ, zero, suc, List, replicate, Option, Some, None, refl, ap, ◌∙◌}
use Rattle.mach_base.specs.Machine.{Place, LineState}
use Rattle.mach_base.specs.declared.limits.TheConstants.{PLACES}
use Rattle.kdb_env.specs.Variables.{AreVariables}
use Rattle.kdb_macro.specs.Macros.{AreMacros}
use Rattle.kdb_cmd.specs.Line.{macros_of}
use Rattle.kdb_bp.specs.Breaks.{place_at}
use Rattle.kdb_cmd.specs.Limits.{WithinLimits as DebuggerLimits}

no_place : (n i : ℕ) → ◌≡◌ {A = Option Place} (place_at (replicate n None) i) None
no_place zero i = refl
no_place (suc n) zero = refl
no_place (suc n) (suc i) = no_place n i

no_breakpoint : (places : List (Option Place)) (i : ℕ) (p : Place) → places ≡ replicate PLACES None → place_at places i ≡ Some p → ⊥
no_breakpoint places i p none e =
    let nothing = ap (λ places. place_at places i) none ∙ no_place PLACES i in cc

-- no breakpoint, and variables and macros within their limits
pub debugger_within : (s : LineState) → s.places ≡ replicate PLACES None → AreVariables s.variables → AreMacros (macros_of s) → DebuggerLimits s
debugger_within s places variables macros = record {
  places = rw places refl;
  variables = variables;
  macros = macros;
  breakpoints = record {
    apart = λ i j p q e f same. absurd (no_breakpoint s.places i p places e);
    text = λ i p e. absurd (no_breakpoint s.places i p places e);
  };
}
