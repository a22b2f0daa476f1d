-- The segments with their bytes that a map keeps.
use Rattle.std.specs.Prelude.{◌≡◌, ℕ, zero, suc, ◌+◌, ◌*◌, ◌^◌, ◌<◌, ◌≤◌, ⊤, true, false, List, [], ◌∷◌, length, map, replicate, slice_index, slice_index_or, slice_set, None}
use Rattle.std.specs.List.{AllByRecursion}
use Rattle.mach_base.specs.declared.memory_range.Segment.{Segment}
use Rattle.mach_base.specs.Machine.{Memory, Part, AreSegments, holds, memory_of}
use Rattle.mem_map.specs.declared.rights.Access.{Access}
use Rattle.mach_base.specs.Bytes.{byte_of}
use Rattle.mem_map.specs.Access.{access_fault}

-- the part has a byte for each address of its segment
abbrev pub IsWhole : Part → Type 0
IsWhole p = length p.bytes ≡ p.segment.len

-- the segments of the parts
abbrev pub segments_of : List Part → List Segment
segments_of parts = map (λ p. p.segment) parts

-- the parts of a map: whole, and their segments keep the bounds, the order and the limits
pub record AreParts (parts : List Part) : Type 0 where
  pub segments : AreSegments (segments_of parts)
  pub whole : AllByRecursion IsWhole parts

-- the segment with all bytes 0
abbrev pub zero_part : Segment → Part
zero_part s = record { segment = s; bytes = replicate s.len 0 }

-- the memory of the segments in which all bytes are 0
abbrev pub zero_memory : List Segment → Memory
zero_memory segments = memory_of (map zero_part segments)

-- there are contents for each segment, as long as it
abbrev pub AreContents : List Segment → List (List ℕ) → Type 0
AreContents [] [] = ⊤
AreContents [] (b ∷ bs) = ⊥
AreContents (s ∷ ss) [] = ⊥
AreContents (s ∷ ss) (b ∷ bs) = (length b ≡ s.len) × AreContents ss bs

-- each segment with its contents
abbrev pub parts_of : List Segment → List (List ℕ) → List Part
parts_of [] contents = []
parts_of (s ∷ ss) [] = []
parts_of (s ∷ ss) (b ∷ bs) = record { segment = s; bytes = b } ∷ parts_of ss bs

-- the number that `width` bytes spell, where the byte at `place + k` counts 256^k
abbrev pub number_at : List ℕ → ℕ → ℕ → ℕ
number_at bytes place zero = 0
number_at bytes place (suc n) = number_at bytes place n + slice_index bytes (place + n) * 256 ^ n

-- the bytes with others, given by their number from 0 on, from this place on: so many of them
abbrev pub with_each : List ℕ → ℕ → (ℕ → ℕ) → ℕ → List ℕ
with_each bytes place others zero = bytes
with_each bytes place others (suc n) = slice_set (with_each bytes place others n) (place + n) (others n)

-- the bytes with the lowest `width` bytes of the number from this place on
abbrev pub with_number : List ℕ → ℕ → ℕ → ℕ → List ℕ
with_number bytes place width value = with_each bytes place (byte_of value) width

-- the bytes with the first so many bytes of a text from this place on
abbrev pub with_text : List ℕ → ℕ → List ℕ → ℕ → List ℕ
with_text bytes place text n = with_each bytes place (slice_index text) n

-- no part holds the address
abbrev pub NoneHolds : List Part → ℕ → Type 0
NoneHolds parts addr = (k : ℕ) (p : Part) → k < length parts → holds (slice_index_or parts k p).segment addr ≡ false

-- part `i` is the first that holds the address
pub record IsFirstAt (parts : List Part) (addr i : ℕ) : Type 0 where
  pub within : i < length parts
  pub here : (p : Part) → holds (slice_index_or parts i p).segment addr ≡ true
  pub before : (k : ℕ) (p : Part) → k < i → holds (slice_index_or parts k p).segment addr ≡ false

-- the first so many parts begin at the address or below it, the others above it
pub record AreBegun (parts : List Part) (addr count : ℕ) : Type 0 where
  pub within : count ≤ length parts
  pub low : (k : ℕ) (p : Part) → k < count → (slice_index_or parts k p).segment.base ≤ addr
  pub high : (k : ℕ) (p : Part) → count ≤ k → k < length parts → addr < (slice_index_or parts k p).segment.base

-- every byte of the access falls into part `i`, and the access doesn't fault
pub record IsAllowedIn (parts : List Part) (access : Access) (addr width i : ℕ) : Type 0 where
  pub within : i < length parts
  pub low : (p : Part) → (slice_index_or parts i p).segment.base ≤ addr
  pub high : (p : Part) → addr + width ≤ (slice_index_or parts i p).segment.base + length (slice_index_or parts i p).bytes
  pub first : (k : ℕ) → k < width → IsFirstAt parts (addr + k) i
  pub faultless : access_fault (memory_of parts) access addr width ≡ None
