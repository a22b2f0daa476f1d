-- What no line changes, and what the debugger keeps between lines.
use Rattle.std.specs.Prelude.{◌≡◌, ℕ, true, List, length, Option, Some}
use Rattle.mach_base.specs.declared.limits.TheConstants.{PLACES}
use Rattle.mach_base.specs.Machine.{Memory, Place, LineState, is_text_word}
use Rattle.kdb_bp.specs.Breaks.{place_at}
use Rattle.kdb_env.specs.Variables.{AreVariables}
use Rattle.kdb_macro.specs.Macros.{AreMacros}
use Rattle.kdb_cmd.specs.Line.{macros_of, line_said}

-- no address stands in two places, and each one is an instruction's address in a text segment
pub record AreBreakpoints (m : Memory) (places : List (Option Place)) : Type 0 where
  pub apart : (i j : ℕ) (p q : Place) → place_at places i ≡ Some p → place_at places j ≡ Some q → p.addr ≡ q.addr → i ≡ j
  pub text : (i : ℕ) (p : Place) → place_at places i ≡ Some p → is_text_word m p.addr ≡ true

-- there are as many breakpoint places as there shall be; variables and macros are within their limits; breakpoints are
-- apart, and each is in text
pub record WithinLimits (s : LineState) : Type 0 where
  pub places : length s.places ≡ PLACES
  pub variables : AreVariables s.variables
  pub macros : AreMacros (macros_of s)
  pub breakpoints : AreBreakpoints s.memory s.places

-- the segments, the symbols and the number of harts are as they were, and the limits hold if they held before
pub record Keeps (before : LineState) (after : LineState) : Type 0 where
  pub segments : after.memory.segments ≡ before.memory.segments
  pub symbols : after.symbols ≡ before.symbols
  pub harts : length after.harts ≡ length before.harts
  pub limits : WithinLimits before → WithinLimits after

-- every line, of any session and in any state, does so
abbrev pub LinesKeepTheLimits : Type 0
LinesKeepTheLimits = (gathered entry : ℕ) (line : List ℕ) (s : LineState) → Keeps s (line_said gathered entry line s).state
