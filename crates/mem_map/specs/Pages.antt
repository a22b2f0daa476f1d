-- The pages of memory: so many bytes each, cut from the base of each segment on. The last page of a segment may be shorter.
-- Pages are counted from 0, over all segments in order.
use Rattle.std.specs.Prelude.{◌≡◌, ℕ, zero, suc, ◌+◌, ◌-◌, ◌*◌, ◌/◌, ◌%◌, ◌<◌, ◌≤◌, Bool, true, false, List, [], ◌∷◌, length, replicate, slice_index, slice_index_or, slice_set, Some, min, nat_lt, refl, if◌then◌else◌}
use Rattle.std.specs.Coded.{Coded, code_by, coded×, coded_list, coded_bool}
use Rattle.std.specs.Ordering.{nat_cmp}
use Rattle.std.specs.FinMap.{FinMap, insert}
use Rattle.mach_base.specs.declared.memory_range.Segment.{Segment}
use Rattle.mach_base.specs.Bytes.{IsWidth}
use Rattle.mach_base.specs.Codes.{memory_code}
use Rattle.mach_base.specs.Machine.{Memory, Part, byte_at, holds, segment_at}
use Rattle.mem_map.specs.Parts.{AreParts, segments_of}
use Rattle.mem_map.specs.declared.pages.Page.{Page}
use Rattle.mem_map.specs.declared.memory.Spot.{Spot}
use Rattle.mem_map.specs.declared.pages.TheConstants.{PAGE_BYTES}

-- memory, and for each page whether it is marked as changed
pub record PagedMemory : Type 0 where
  pub memory : Memory
  pub changed : List Bool

-- paged memory as the pair of its fields
abbrev pub paged_code : Coded PagedMemory
paged_code = code_by (Memory × List Bool) (coded× memory_code (coded_list coded_bool)) (λ m. (m.memory, m.changed)) (λ p. record { memory = p.0; changed = p.1 }) (λ _. refl)

-- how many pages a segment has
abbrev pub pages_in : Segment → ℕ
pages_in s = (s.len + (PAGE_BYTES - 1)) / PAGE_BYTES

-- how many pages the segments have together
abbrev pub page_total : List Segment → ℕ
page_total [] = 0
page_total (s ∷ rest) = pages_in s + page_total rest

-- the address of the first byte of a page
abbrev pub page_base : List Segment → ℕ → ℕ
page_base [] i = 0
page_base (s ∷ rest) i = if nat_lt i (pages_in s) then s.base + PAGE_BYTES * i else page_base rest (i - pages_in s)

-- how many bytes a page has
abbrev pub page_length : List Segment → ℕ → ℕ
page_length [] i = 0
page_length (s ∷ rest) i = if nat_lt i (pages_in s) then min PAGE_BYTES (s.len - PAGE_BYTES * i) else page_length rest (i - pages_in s)

-- the page of an address
abbrev pub page_of : List Segment → ℕ → ℕ
page_of [] addr = 0
page_of (s ∷ rest) addr = if holds s addr then (addr - s.base) / PAGE_BYTES else pages_in s + page_of rest addr

-- the address is one of the page's
abbrev pub IsInPage : List Segment → ℕ → ℕ → Type 0
IsInPage segments i addr = (page_base segments i ≤ addr) × (addr < page_base segments i + page_length segments i)

-- paged memory without a mark
abbrev pub unmarked : Memory → PagedMemory
unmarked m = record { memory = m; changed = replicate (page_total m.segments) false }

-- the marks with that of an address's page
abbrev pub marked_at : PagedMemory → ℕ → List Bool
marked_at m addr = slice_set m.changed (page_of m.memory.segments addr) true

-- the page with this number: its bytes are those of memory from its base on
pub record IsPage (m : PagedMemory) (i : ℕ) (p : Page) : Type 0 where
  pub base : p.base ≡ page_base m.memory.segments i
  pub size : length p.bytes.now ≡ page_length m.memory.segments i
  pub bytes : (k : ℕ) → k < length p.bytes.now → byte_at m.memory (p.base + k) ≡ Some (slice_index p.bytes.now k)
  pub mark : p.changed ≡ slice_index_or m.changed i false

-- the bytes of memory after the first so many of a text are written from the address on
abbrev pub with_first : FinMap nat_cmp ℕ → ℕ → List ℕ → ℕ → FinMap nat_cmp ℕ
with_first bytes addr text zero = bytes
with_first bytes addr text (suc n) = insert (with_first bytes addr text n) (addr + n) (slice_index text n)

-- memory after a text is written from the address on
abbrev pub with_text : Memory → ℕ → List ℕ → Memory
with_text m addr text = record m { bytes = with_first m.bytes addr text (length text) }

-- A page that has no mark afterwards had none before, and its bytes are what they were; so are the segments.
pub record KeepsUnmarked (old new : PagedMemory) : Type 0 where
  pub segments : new.memory.segments ≡ old.memory.segments
  pub marks : (i : ℕ) → slice_index_or new.changed i false ≡ false → slice_index_or old.changed i false ≡ false
  pub bytes : (addr : ℕ) → slice_index_or new.changed (page_of old.memory.segments addr) false ≡ false → byte_at new.memory addr ≡ byte_at old.memory addr

-- what holds of the pages of segments
pub record ArePages (segments : List Segment) : Type 0 where
  pub within : (addr : ℕ) (s : Segment) → segment_at segments addr ≡ Some s → page_of segments addr < page_total segments
  pub here : (addr : ℕ) (s : Segment) → segment_at segments addr ≡ Some s → IsInPage segments (page_of segments addr) addr
  pub apart : (i addr : ℕ) → i < page_total segments → IsInPage segments i addr → page_of segments addr ≡ i
  pub accesses : (addr width k : ℕ) → IsWidth width → addr % width ≡ 0 → k < width → page_of segments (addr + k) ≡ page_of segments addr

-- the first page of each segment, where the first segment's is this one
abbrev pub first_pages : ℕ → List Segment → List ℕ
first_pages n [] = []
first_pages n (s ∷ rest) = n ∷ first_pages (n + pages_in s) rest

-- the first so many numbers of a list aren't above this one, the others are
pub record IsCountUpTo (numbers : List ℕ) (n count : ℕ) : Type 0 where
  pub within : count ≤ length numbers
  pub low : (k : ℕ) → k < count → slice_index numbers k ≤ n
  pub high : (k : ℕ) → count ≤ k → k < length numbers → n < slice_index numbers k

-- where page `i` is: the place in its part at which it begins
pub record IsSpot (parts : List Part) (i : ℕ) (spot : Spot) : Type 0 where
  pub within : spot.piece < length parts
  pub base : (p : Part) → (slice_index_or parts spot.piece p).segment.base + spot.place ≡ page_base (segments_of parts) i
  pub size : (p : Part) → min PAGE_BYTES (length (slice_index_or parts spot.piece p).bytes - spot.place) ≡ page_length (segments_of parts) i
  pub place : (p : Part) → spot.place < length (slice_index_or parts spot.piece p).bytes

-- what holds of the fields of a map: its parts, the first page of each, and a mark for each page
pub record IsMap (ps : List Part) (numbers : List ℕ) (changed : List Bool) : Type 0 where
  pub parts : AreParts ps
  pub firsts : numbers ≡ first_pages 0 (segments_of ps)
  pub marks : length changed ≡ page_total (segments_of ps)
