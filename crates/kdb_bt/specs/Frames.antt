-- The frames of a hart, as a chain of frame pointers in memory has them (RISC-V calling convention, "Frame Pointer
-- Convention").
use Rattle.std.specs.Prelude.{ℕ, zero, suc, ◌-◌, ◌%◌, ◌==◌, ◌&&◌, List, [], ◌∷◌, slice_index, Option, Some, None, nat_lt, nat_le, if◌then◌else◌}
use Rattle.mach_base.specs.Machine.{Memory, Context}
use Rattle.mach_base.specs.Bytes.{all_bytes, is_mapped, number_in}
use Rattle.kdb_bt.specs.declared.frame.Frame.{Frame}

-- the number that so many bytes from the address on spell, if each of them is mapped
unfoldable pub number_at : Memory → ℕ → ℕ → Option ℕ
number_at m addr count = if all_bytes (is_mapped m) addr count then Some (number_in m addr count) else None

-- a frame of both of its words, if they are there
abbrev pub both_words : Option ℕ → Option ℕ → Option Frame
both_words None pointer = None
both_words (Some address) None = None
both_words (Some address) (Some pointer) = Some (record { return_address = address; caller = pointer })

-- What is in the 16 bytes below a frame pointer, the return address above the caller's frame pointer; none where the
-- frame pointer is no multiple of 8 or below 16, or one of the bytes isn't mapped.
unfoldable pub frame_at : Memory → ℕ → Option Frame
frame_at m pointer =
    if (pointer % 8 == 0) && nat_le 16 pointer then both_words (number_at m (pointer - 8) 8) (number_at m (pointer - 16) 8) else None

-- the return address of a frame, and those after it where the caller's frame pointer is above this one; a return address
-- of 0 ends the chain
abbrev pub from_frame : ℕ → Option Frame → (ℕ → List ℕ) → List ℕ
from_frame pointer None rest = []
from_frame pointer (Some frame) rest =
    if frame.return_address == 0 then [] else frame.return_address ∷ (if nat_lt pointer frame.caller then rest frame.caller else [])

-- the return addresses from a frame pointer on, at most so many
unfoldable pub return_addresses : Memory → ℕ → ℕ → List ℕ
return_addresses m zero pointer = []
return_addresses m (suc n) pointer = from_frame pointer (frame_at m pointer) (λ caller. return_addresses m n caller)

-- The addresses of a hart's frames, at most 64: its pc, and the return addresses from its frame pointer on, which is x8.
abbrev pub frames_of : Memory → Context → List ℕ
frames_of m c = c.pc ∷ return_addresses m 63 (slice_index c.registers 8)
