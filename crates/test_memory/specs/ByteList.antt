-- Memory for tests.
use Rattle.std.specs.Prelude.{ℕ, List, [], ◌∷◌}
use Rattle.std.specs.FinMap.{from_entries}
use Rattle.mach_base.specs.declared.memory_range.Segment.{Segment}
use Rattle.mach_base.specs.declared.memory_range.Kind.TheVariants.{Text}
use Rattle.mach_base.specs.Machine.{Memory, numbered}

-- the text segment, of 128 bytes
abbrev pub text_segment : Segment
text_segment = record { base = 4096; len = 128; kind = Text }

-- the memory with these bytes from address 0 on
abbrev pub memory_of : List ℕ → Memory
memory_of bytes = record { segments = text_segment ∷ []; bytes = from_entries (numbered 0 bytes) }
