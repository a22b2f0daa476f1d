-- The commands about breakpoints.
use Rattle.std.specs.Prelude.{ℕ, zero, suc, ◌==◌, Bool, true, false, List, [], ◌++◌, length, codes, nat_lt, slice_set, unwrap_or, Option, Some, None, is_none, Result, Ok, Err, if◌then◌else◌}
use Rattle.std.specs.Str.{bytes_eq}
use Rattle.mach_base.specs.declared.limits.TheConstants.{PLACES}
use Rattle.mach_base.specs.Machine.{Place, Symbol, LineState}
use Rattle.mach_base.specs.Number.{dec_text, number_of}
use Rattle.mach_base.specs.Texts.{newline}
use Rattle.mach_base.specs.declared.number.NumFault.{NumFault}
use Rattle.sym_map.specs.Texts.{place_text}
use Rattle.kdb_bp.specs.declared.bp_fault.BpFault.{BpFault}
use Rattle.kdb_bp.specs.declared.bp_fault.BpFault.TheVariants as fault
use Rattle.kdb_bp.specs.Breaks.{place_at, added, with_place, switched}
use Rattle.kdb_table.specs.declared.diagnostics.Diagnostic.{Diagnostic}
use Rattle.kdb_table.specs.declared.diagnostics.Diagnostic.TheVariants as diagnostic
use Rattle.kdb_table.specs.declared.commands.BreakpointChange.{BreakpointChange}
use Rattle.kdb_table.specs.declared.commands.BreakpointChange.TheVariants.{Clear, Disable, Enable}
use Rattle.kdb_view.specs.declared.breakpoints.BreakpointAnswer.{BreakpointAnswer}

-- the places
abbrev pub Places : Type 0
Places = List (Option Place)

-- whether a place is enabled
abbrev pub state_word : Bool → List ℕ
state_word enabled = if enabled then codes " enabled" else codes " disabled"

-- the line of a place that is set: its number, its address and whether it is enabled
unfoldable pub breakpoint_line : List Symbol → ℕ → Place → List ℕ
breakpoint_line symbols n place =
    codes "BP #" ++ (dec_text n ++ (codes " at " ++ (place_text symbols place.addr ++ (state_word place.enabled ++ newline))))

-- the line of a place, and nothing for one that is empty
abbrev pub place_line : List Symbol → ℕ → Option Place → List ℕ
place_line symbols n None = []
place_line symbols n (Some place) = breakpoint_line symbols n place

-- the lines of the first places
abbrev pub first_lines : List Symbol → Places → ℕ → List ℕ
first_lines symbols places zero = []
first_lines symbols places (suc n) = first_lines symbols places n ++ place_line symbols n (place_at places n)

-- these lines, or the one that says that there are none
unfoldable pub lines_or_none : List ℕ → List ℕ
lines_or_none lines = if length lines == 0 then codes "No breakpoints are set" ++ newline else lines

-- `bl`: the places that are set
unfoldable pub bl_text : List Symbol → Places → List ℕ
bl_text symbols places = lines_or_none (first_lines symbols places PLACES)

-- the diagnostic of a breakpoint that isn't set at this address; a new one is never not found
abbrev pub fault_diagnostic : ℕ → BpFault → Diagnostic
fault_diagnostic addr fault.BadAddr = diagnostic.BadAddress addr
fault_diagnostic addr fault.NotText = diagnostic.NotText addr
fault_diagnostic addr fault.Duplicate = diagnostic.Duplicate
fault_diagnostic addr fault.TooMany = diagnostic.TooManyBreakpoints
fault_diagnostic addr fault.NotFound = diagnostic.TooManyBreakpoints

-- the places with the breakpoint, or the diagnostic
abbrev pub new_place_or_diagnostic : LineState → ℕ → Result ℕ BpFault → Result BreakpointAnswer Diagnostic
new_place_or_diagnostic s addr (Ok n) = Ok (record { text = breakpoint_line s.symbols n (record { addr = addr; enabled = true }); breaks = with_place s.places n addr })
new_place_or_diagnostic s addr (Err why) = Err (fault_diagnostic addr why)

-- `bp E`: a breakpoint more, at this address
unfoldable pub bp_answer : LineState → ℕ → Result BreakpointAnswer Diagnostic
bp_answer s addr = new_place_or_diagnostic s addr (added s.memory s.places addr)

-- what was done to a place
abbrev pub change_word : BreakpointChange → List ℕ
change_word Clear = codes " cleared"
change_word Disable = codes " disabled"
change_word Enable = codes " enabled"

-- the line that says how the place of a number was changed
unfoldable pub change_line : BreakpointChange → ℕ → List ℕ
change_line change n = codes "BP #" ++ (dec_text n ++ (change_word change ++ newline))

-- a place after its change
abbrev pub changed : BreakpointChange → Option Place → Option Place
changed Clear place = None
changed Disable place = switched false place
changed Enable place = switched true place

-- the places once the one of a number is changed; none where it is empty
abbrev pub changed_at : BreakpointChange → Places → ℕ → Option Places
changed_at change places n = if is_none (place_at places n) then None else Some (slice_set places n (changed change (place_at places n)))

-- the line of a change, if there was one
abbrev pub line_of_change : BreakpointChange → ℕ → Option Places → List ℕ
line_of_change change n None = []
line_of_change change n (Some places) = change_line change n

-- the places once each of the first n that is set is changed
abbrev pub changed_first : BreakpointChange → Places → ℕ → Places
changed_first change places zero = places
changed_first change places (suc n) = unwrap_or (changed_at change (changed_first change places n) n) (changed_first change places n)

-- the lines of these changes
abbrev pub changed_lines : BreakpointChange → Places → ℕ → List ℕ
changed_lines change places zero = []
changed_lines change places (suc n) = changed_lines change places n ++ line_of_change change n (changed_at change (changed_first change places n) n)

-- each place that is set is changed
abbrev pub all_changed : Places → BreakpointChange → BreakpointAnswer
all_changed places change = record { text = lines_or_none (changed_lines change places PLACES); breaks = changed_first change places PLACES }

-- the changed places, or the diagnostic
abbrev pub change_or_diagnostic : BreakpointChange → ℕ → Option Places → Result BreakpointAnswer Diagnostic
change_or_diagnostic change n None = Err (diagnostic.NoBreakpoint n)
change_or_diagnostic change n (Some places) = Ok (record { text = change_line change n; breaks = places })

-- the place of a number is changed
abbrev pub one_changed : Places → BreakpointChange → ℕ → Result BreakpointAnswer Diagnostic
one_changed places change n = if nat_lt n PLACES then change_or_diagnostic change n (changed_at change places n) else Err (diagnostic.NoBreakpoint n)

-- the place of a number that is read is changed
abbrev pub number_changed : Places → BreakpointChange → Result ℕ NumFault → Result BreakpointAnswer Diagnostic
number_changed places change (Ok n) = one_changed places change n
number_changed places change (Err why) = Err (diagnostic.BadNumber 1)

-- `bc N`, `bd N`, `be N`: the places that a word names are changed: each that is set for *, else the one of a decimal number
unfoldable pub change_answer : Places → BreakpointChange → List ℕ → Result BreakpointAnswer Diagnostic
change_answer places change word =
    if bytes_eq word (codes "*") then Ok (all_changed places change)
    else number_changed places change (number_of 10 word)
