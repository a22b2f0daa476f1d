-- The state of the machine and of the debugger, as commands, steps and journals speak of it.
use Rattle.std.specs.Prelude.{◌≡◌, ℕ, ◌+◌, ◌%◌, ◌^◌, ◌<◌, ◌≤◌, ◌==◌, ◌&&◌, Bool, true, false, List, [], ◌∷◌, ◌++◌, length, map, sum_by, Option, Some, None, nat_lt, nat_le, if◌then◌else◌}
use Rattle.std.specs.Ordering.{nat_cmp}
use Rattle.std.specs.FinMap.{FinMap, get, from_entries}
use Rattle.std.specs.List.{AllByRecursion}
use Rattle.mach_base.specs.declared.memory_range.Kind.{Kind}
use Rattle.mach_base.specs.declared.memory_range.Kind.TheVariants.{Text, Data, Rodata}
use Rattle.mach_base.specs.declared.memory_range.Segment.{Segment}
use Rattle.mach_base.specs.declared.limits.TheConstants.{MOST_SEGMENTS, MOST_MEMORY}

-- a hart's context: 32 integer registers, the pc, what the firmware keeps for interrupts, and the granule of 8 bytes
-- that its reservation is on, by number
pub record Context : Type 0 where
  pub registers : List ℕ
  pub pc : ℕ
  pub epc : ℕ
  pub vector : ℕ
  pub masked : Bool
  pub pending : Bool
  pub halted : Bool
  pub reservation : Option ℕ

-- memory: the segments in order, and each mapped address with its byte
pub record Memory : Type 0 where
  pub segments : List Segment
  pub bytes : FinMap nat_cmp ℕ

-- a breakpoint place that is set
pub record Place : Type 0 where
  pub addr : ℕ
  pub enabled : Bool

-- a macro: its name, and its lines in order
pub record Macro : Type 0 where
  pub name : List ℕ
  pub lines : List (List ℕ)

-- a symbol: its address and its name
pub record Symbol : Type 0 where
  pub addr : ℕ
  pub name : List ℕ

-- What a line of the debugger sees and may change: the harts' contexts, memory, the breakpoint places, the variables in
-- order of insertion, the macros and whether the last one is being defined, the symbols in the order of their file, and
-- the current processor.
pub record LineState : Type 0 where
  pub harts : List Context
  pub memory : Memory
  pub places : List (Option Place)
  pub variables : List (List ℕ × List ℕ)
  pub macros : List Macro
  pub defining : Bool
  pub symbols : List Symbol
  pub current : ℕ

-- The whole state but for the mode: what a line sees, the limit of steps, the unread script lines, how many lines were
-- read, the number of steps, and whether a session was opened.
pub record Machine : Type 0 where
  pub seen : LineState
  pub limit : ℕ
  pub unread : List (List ℕ)
  pub lines_read : ℕ
  pub steps : ℕ
  pub opened : Bool

-- a segment's bounds: multiples of 8, not empty, and within the lower half of the addresses
abbrev pub HasBounds : Segment → Type 0
HasBounds s = (s.base % 8 ≡ 0) × (s.len % 8 ≡ 0) × (0 < s.len) × (s.base + s.len ≤ 2 ^ 63)

-- each segment begins at this address or above, and at or above the end of the one before
abbrev pub AreInOrder : ℕ → List Segment → Type 0
AreInOrder end [] = Unit {0}
AreInOrder end (s ∷ rest) = (end ≤ s.base) × AreInOrder (s.base + s.len) rest

-- the bytes of all segments together
abbrev pub memory_size : List Segment → ℕ
memory_size segments = sum_by (λ s. s.len) segments

-- the segments of a machine: each with its bounds, in order, not too many of them and not too large in all
pub record AreSegments (segments : List Segment) : Type 0 where
  pub bounds : AllByRecursion HasBounds segments
  pub order : AreInOrder 0 segments
  pub few : length segments ≤ MOST_SEGMENTS
  pub small : memory_size segments ≤ MOST_MEMORY

-- a segment with its bytes in order, as an image gives it
pub record Part : Type 0 where
  pub segment : Segment
  pub bytes : List ℕ

-- the bytes, each with its address, from this one on
abbrev pub numbered : ℕ → List ℕ → List (ℕ × ℕ)
numbered addr [] = []
numbered addr (b ∷ bs) = (addr, b) ∷ numbered (addr + 1) bs

-- each address of the parts with its byte
abbrev pub entries_of : List Part → List (ℕ × ℕ)
entries_of [] = []
entries_of (p ∷ ps) = numbered p.segment.base p.bytes ++ entries_of ps

-- the memory that the parts make
abbrev pub memory_of : List Part → Memory
memory_of parts = record { segments = map (λ p. p.segment) parts; bytes = from_entries (entries_of parts) }

-- whether the segment holds the address
abbrev pub holds : Segment → ℕ → Bool
holds s addr = nat_le s.base addr && nat_lt addr (s.base + s.len)

-- the segment that holds the address, if any
abbrev pub segment_at : List Segment → ℕ → Option Segment
segment_at [] addr = None
segment_at (s ∷ rest) addr = if holds s addr then Some s else segment_at rest addr

-- the byte at the address, if it is mapped
abbrev pub byte_at : Memory → ℕ → Option ℕ
byte_at m addr = get m.bytes addr

-- whether the segment, if any, holds text
abbrev pub is_text_segment : Option Segment → Bool
is_text_segment None = false
is_text_segment (Some s) = is_text_kind s.kind
  where
    is_text_kind : Kind → Bool
    is_text_kind Text = true
    is_text_kind Data = false
    is_text_kind Rodata = false

-- whether a whole word of text stands at the address
abbrev pub is_text_word : Memory → ℕ → Bool
is_text_word m addr = (addr % 4 == 0) && is_text_segment (segment_at m.segments addr)
