-- Scripts: which lines are right.
use Rattle.std.specs.Prelude.{◌≡◌, ℕ, ◌+◌, ◌≤◌, ◌==◌, ◌&&◌, ◌||◌, Bool, not, List, [], ◌∷◌, length, Option, Some, None, Result, Ok, Err, nat_le, if◌then◌else◌}
use Rattle.std.specs.List.{list_all}
use Rattle.mach_base.specs.Lines.{lines_of}
use Rattle.mach_base.specs.declared.event.What.TheVariants.{Lines}
use Rattle.mach_base.specs.declared.limits.TheConstants.{MOST_LINES, LINE_BYTES}
use Rattle.atom_mach.specs.declared.script.ScriptFault.{ScriptFault}
use Rattle.atom_mach.specs.declared.script.ScriptFault.TheVariants.{Bad, TooLarge, OutOfMemory}

-- a byte that may be in a script: a tab, or from 0x20 on but for 0x7f
abbrev pub is_script_byte : ℕ → Bool
is_script_byte b = (b == 9) || (nat_le 32 b && not (b == 127))

-- a line that is right: at most 200 bytes, each of which may be in a script
abbrev pub is_script_line : List ℕ → Bool
is_script_line line = nat_le (length line) LINE_BYTES && list_all is_script_byte line

-- the number of the first line that isn't right, where the first of these is line `n`
abbrev pub first_bad_line : ℕ → List (List ℕ) → Option ℕ
first_bad_line n [] = None
first_bad_line n (line ∷ lines) = if is_script_line line then first_bad_line (n + 1) lines else Some n

-- the lines where they are a script, or what is wrong: the first line that isn't right, else too many lines
abbrev pub checked_lines : List (List ℕ) → Option ℕ → Result (List (List ℕ)) ScriptFault
checked_lines lines (Some n) = Err (Bad n)
checked_lines lines None = if nat_le (length lines) MOST_LINES then Ok lines else Err (TooLarge Lines (length lines))

-- The lines of a script, or what is wrong with it.
unfoldable pub checked_script : List ℕ → Result (List (List ℕ)) ScriptFault
checked_script script = checked_lines (lines_of script) (first_bad_line 1 (lines_of script))

-- the answer is the check's, unless memory ran out
abbrev pub Answers : Result (List (List ℕ)) ScriptFault → Result (List (List ℕ)) ScriptFault → Type 0
Answers (Err OutOfMemory) checked = Unit {0}
Answers (Err (Bad n)) checked = checked ≡ Err (Bad n)
Answers (Err (TooLarge what size)) checked = checked ≡ Err (TooLarge what size)
Answers (Ok lines) checked = checked ≡ Ok lines

-- the lines are those of a script that is right
pub record IsScript (lines : List (List ℕ)) : Type 0 where
  pub right : first_bad_line 1 lines ≡ None
  pub few : length lines ≤ MOST_LINES
