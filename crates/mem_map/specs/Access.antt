-- What an access to memory reads and leaves, and when it faults. An access is `width` bytes from an address on.
use Rattle.std.specs.Prelude.{ℕ, ◌%◌, ◌==◌, Bool, true, false, not, Option, Some, None, Result, Ok, Err, if◌then◌else◌}
use Rattle.mach_base.specs.declared.memory_range.Kind.{Kind}
use Rattle.mach_base.specs.declared.memory_range.Kind.TheVariants.{Text, Data, Rodata}
use Rattle.mach_base.specs.declared.memory_range.Segment.{Segment}
use Rattle.mach_base.specs.declared.event.Fault.{Fault}
use Rattle.mach_base.specs.declared.event.Cause.{Cause}
use Rattle.mach_base.specs.declared.event.Cause.TheVariants.{Unmapped, NoRight, Misaligned}
use Rattle.mach_base.specs.Bytes.{is_mapped, all_bytes, number_in, with_value}
use Rattle.mach_base.specs.Machine.{Memory, segment_at}
use Rattle.mem_map.specs.declared.rights.Access.{Access}
use Rattle.mem_map.specs.declared.rights.Access.TheVariants.{Fetch, Load, Store}

-- text is fetched, data loaded and stored, rodata loaded
abbrev pub allows : Access → Kind → Bool
allows Fetch Text = true
allows Fetch Data = false
allows Fetch Rodata = false
allows Load Text = false
allows Load Data = true
allows Load Rodata = true
allows Store Text = false
allows Store Data = true
allows Store Rodata = false

-- whether the segment, if any, allows the access
abbrev pub allowed_in : Access → Option Segment → Bool
allowed_in access None = false
allowed_in access (Some s) = allows access s.kind

-- whether the segment of the address allows the access
abbrev pub has_right : Memory → Access → ℕ → Bool
has_right m access addr = allowed_in access (segment_at m.segments addr)

-- a fault of this cause at the address
abbrev pub fault_at : Cause → ℕ → Option Fault
fault_at cause addr = Some (record { cause = cause; addr = addr })

-- the fault of an access, if any: misaligned comes before unmapped, and that before no right
unfoldable pub access_fault : Memory → Access → ℕ → ℕ → Option Fault
access_fault m access addr width =
    if not (addr % width == 0) then fault_at Misaligned addr
    else (if not (all_bytes (is_mapped m) addr width) then fault_at Unmapped addr
    else (if not (all_bytes (has_right m access) addr width) then fault_at NoRight addr
    else None))

-- the fault, if there is one, else the value
abbrev pub unless_fault : {A : Type 0} → Option Fault → A → Result A Fault
unless_fault None value = Ok value
unless_fault (Some fault) value = Err fault

-- the word of 4 bytes that a fetch gives
unfoldable pub fetch_result : Memory → ℕ → Result ℕ Fault
fetch_result m addr = unless_fault (access_fault m Fetch addr 4) (number_in m addr 4)

-- the number that a load gives
unfoldable pub load_result : Memory → ℕ → ℕ → Result ℕ Fault
load_result m addr width = unless_fault (access_fault m Load addr width) (number_in m addr width)

-- the fault of a store, if any
unfoldable pub store_fault : Memory → ℕ → ℕ → Option Fault
store_fault m addr width = access_fault m Store addr width

-- the memory that a store without fault leaves: the lowest `width` bytes of the value are those from the address on
unfoldable pub after_store : Memory → ℕ → ℕ → ℕ → Memory
after_store m addr width value = with_value m addr width value
