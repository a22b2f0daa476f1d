-- Macros. docs/debugger.md, "Macros", has the rules.
use Rattle.std.specs.Prelude.{◌≡◌, ℕ, ◌-◌, ◌<◌, ◌≤◌, Bool, true, not, List, [], ◌∷◌, ◌++◌, length, nat_le, position, slice_get, slice_index_or, slice_set, Option, Some, None, if◌then◌else◌}
use Rattle.std.specs.List.{list_any, AllByRecursion}
use Rattle.std.specs.Str.{bytes_eq}
use Rattle.mach_base.specs.Machine.{Macro}
use Rattle.mach_base.specs.declared.limits.TheConstants.{MOST_MACROS, MACRO_LINES}
use Rattle.kdb_env.specs.Variables.{is_name}
use Rattle.kdb_macro.specs.declared.macro_fault.MacroFault.{MacroFault}
use Rattle.kdb_macro.specs.declared.macro_fault.MacroFault.TheVariants.{BadName, Reserved, Duplicate, Full}

-- the macros in the order in which they were begun, and whether the last one is being defined
pub record MacroList : Type 0 where
  pub macros : List Macro
  pub defining : Bool

-- a macro whose lines aren't too many
abbrev pub IsShort : Macro → Type 0
IsShort m = length m.lines ≤ MACRO_LINES

-- the limits: not too many macros, none with too many lines; and one that is being defined is there
pub record AreMacros (s : MacroList) : Type 0 where
  pub few : length s.macros ≤ MOST_MACROS
  pub short : AllByRecursion IsShort s.macros
  pub begun : s.defining ≡ true → 0 < length s.macros

-- whether the macro has this name
abbrev pub is_named : List ℕ → Macro → Bool
is_named name m = bytes_eq m.name name

-- the number of the macro of this name
abbrev pub named : List ℕ → List Macro → Option ℕ
named name macros = position (is_named name) macros

-- this line of a macro, where there is one
abbrev pub line_in : Option Macro → ℕ → Option (List ℕ)
line_in None i = None
line_in (Some m) i = slice_get m.lines i

-- the first refusal of a new macro of this name, which may be a command's
unfoldable pub begin_refusal : List Macro → List ℕ → Bool → Option MacroFault
begin_refusal macros name reserved =
    if not (is_name name) then Some BadName
    else (if reserved then Some Reserved
    else (if list_any (is_named name) macros then Some Duplicate
    else (if nat_le MOST_MACROS (length macros) then Some Full
    else None)))

-- a new macro is begun, without lines
abbrev pub begun : MacroList → List ℕ → MacroList
begun s name = record { macros = s.macros ++ record { name = name; lines = [] } ∷ []; defining = true }

-- the macro that is being defined; one without name and lines where there is none
abbrev pub last_macro : List Macro → Macro
last_macro macros = slice_index_or macros (length macros - 1) (record { name = []; lines = [] })

-- the refusal of a line more: the macro has as many as it may have
abbrev pub add_refusal : List Macro → Option MacroFault
add_refusal macros = if nat_le MACRO_LINES (length (last_macro macros).lines) then Some Full else None

-- the macro with a line more
abbrev pub longer : Macro → List ℕ → Macro
longer m line = record m { lines = m.lines ++ line ∷ [] }

-- the macro that is being defined has a line more
abbrev pub with_line : MacroList → List ℕ → MacroList
with_line s line = record s { macros = slice_set s.macros (length s.macros - 1) (longer (last_macro s.macros) line) }
