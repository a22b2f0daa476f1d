-- What the frames of a hart are, said of the whole chain: the longest one that follows the frame pointers.
use Rattle.std.specs.Prelude.{◌≡◌, ◌≢◌, ℕ, ◌<◌, ◌≤◌, List, [], ◌∷◌, ◌++◌, length, map, slice_index, Some}
use Rattle.mach_base.specs.Machine.{Memory, Context}
use Rattle.kdb_bt.specs.declared.frame.Frame.{Frame}
use Rattle.kdb_bt.specs.Frames.{frame_at, frames_of}

-- this frame stands below the frame pointer, and it has a return address
pub record HasFrame (m : Memory) (pointer : ℕ) (frame : Frame) : Type 0 where
  pub stands : frame_at m pointer ≡ Some frame
  pub returns : frame.return_address ≢ 0

-- each frame stands below its frame pointer: the first below this one, each further one below the caller's frame pointer
-- of the frame before, which is above that frame's own
abbrev pub IsChain : Memory → ℕ → List Frame → Type 0
IsChain m pointer [] = Unit {0}
IsChain m pointer (frame ∷ []) = HasFrame m pointer frame
IsChain m pointer (frame ∷ next ∷ rest) = HasFrame m pointer frame × (pointer < frame.caller) × IsChain m frame.caller (next ∷ rest)

-- These are the addresses of a hart's frames: its pc, then the return addresses of a chain of at most 63 frames from x8 on,
-- and no longer chain goes on from it.
pub record AreFrames (m : Memory) (c : Context) (addresses : List ℕ) : Type 0 where
  pub frames : List Frame
  pub whole : addresses ≡ c.pc ∷ map (λ frame. frame.return_address) frames
  pub chain : IsChain m (slice_index c.registers 8) frames
  pub few : length frames ≤ 63
  pub longest : (more : List Frame) → IsChain m (slice_index c.registers 8) (frames ++ more) → length (frames ++ more) ≤ 63 → more ≡ []

-- the frames of every hart, over every memory, are such addresses
abbrev pub FramesAreTheLongestChain : Type 0
FramesAreTheLongestChain = (m : Memory) (c : Context) → AreFrames m c (frames_of m c)

-- there is one list of such addresses
abbrev pub FramesAreUnique : Type 0
FramesAreUnique = (m : Memory) (c : Context) (one other : List ℕ) → AreFrames m c one → AreFrames m c other → one ≡ other
