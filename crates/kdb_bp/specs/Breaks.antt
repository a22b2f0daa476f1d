-- Breakpoint places. docs/debugger.md, "Breakpoints", has the rules.
use Rattle.std.specs.Prelude.{ℕ, ◌%◌, ◌==◌, ◌&&◌, Bool, true, false, not, List, position, slice_index_or, slice_set, Option, Some, None, is_none, Result, Ok, Err, if◌then◌else◌}
use Rattle.std.specs.List.{list_any}
use Rattle.mach_base.specs.Machine.{Place, Memory, is_text_word}
use Rattle.kdb_bp.specs.declared.bp_fault.BpFault.{BpFault}
use Rattle.kdb_bp.specs.declared.bp_fault.BpFault.TheVariants.{BadAddr, NotText, Duplicate, TooMany}

-- whether the place is set, and has this address
abbrev pub is_at : ℕ → Option Place → Bool
is_at addr None = false
is_at addr (Some place) = place.addr == addr

-- whether the place is set and enabled, and has this address
abbrev pub is_enabled_at : ℕ → Option Place → Bool
is_enabled_at addr None = false
is_enabled_at addr (Some place) = place.enabled && (place.addr == addr)

-- the least empty place
abbrev pub first_empty : List (Option Place) → Option ℕ
first_empty places = position is_none places

-- the least place that is enabled at this address
abbrev pub first_enabled : ℕ → List (Option Place) → Option ℕ
first_enabled addr places = position (is_enabled_at addr) places

-- what is in the place of this number; nothing where there is no such place
abbrev pub place_at : List (Option Place) → ℕ → Option Place
place_at places i = slice_index_or places i None

-- the place of a new breakpoint, or too many
abbrev pub empty_or_fault : Option ℕ → Result ℕ BpFault
empty_or_fault None = Err TooMany
empty_or_fault (Some i) = Ok i

-- The place that a new breakpoint at this address gets, or the first refusal.
unfoldable pub added : Memory → List (Option Place) → ℕ → Result ℕ BpFault
added memory places addr =
    if not (addr % 4 == 0) then Err BadAddr
    else (if not (is_text_word memory addr) then Err NotText
    else (if list_any (is_at addr) places then Err Duplicate
    else empty_or_fault (first_empty places)))

-- the places with this breakpoint, enabled
abbrev pub with_place : List (Option Place) → ℕ → ℕ → List (Option Place)
with_place places i addr = slice_set places i (Some (record { addr = addr; enabled = true }))

-- this place, enabled or disabled
abbrev pub switched : Bool → Option Place → Option Place
switched on None = None
switched on (Some place) = Some (record place { enabled = on })
