-- Images, as contracts see them.
use Rattle.std.specs.Prelude.{◌≡◌, ℕ, ◌-◌, ◌<◌, List, ◌++◌, length, replicate, Option}
use Rattle.std.specs.List.{AllByRecursion}
use Rattle.mach_base.specs.declared.memory_range.Segment.{Segment}
use Rattle.mach_base.specs.declared.limits.TheConstants.{MOST_HARTS}
use Rattle.mach_base.specs.Machine.{AreSegments, Part}
use Rattle.mem_map.specs.Parts.{segments_of, IsWhole}

-- an image: its segments in order, each with its bytes, and for each hart number the pc and the sp to start with, if
-- they are given
pub record ImageRecord : Type 0 where
  pub parts : List Part
  pub pcs : List (Option ℕ)
  pub sps : List (Option ℕ)

-- the segment that begins with these bytes and goes on with zeros
abbrev pub filled : Segment → List ℕ → Part
filled segment bytes = record { segment = segment; bytes = bytes ++ replicate (segment.len - length bytes) 0 }

-- each of the part's numbers is a byte
abbrev pub HasBytes : Part → Type 0
HasBytes part = AllByRecursion (λ b. b < 256) part.bytes

-- what every image keeps
pub record IsImage (image : ImageRecord) : Type 0 where
  pub segments : AreSegments (segments_of image.parts)
  pub whole : AllByRecursion IsWhole image.parts
  pub bytes : AllByRecursion HasBytes image.parts
  pub pcs : length image.pcs ≡ MOST_HARTS
  pub sps : length image.sps ≡ MOST_HARTS
