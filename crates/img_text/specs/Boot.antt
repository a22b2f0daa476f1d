-- What an image gives a machine at its start.
use Rattle.std.specs.Prelude.{ℕ, List, [], ◌∷◌, map, None, slice_index_or}
use Rattle.std.specs.Option.{unwrap_or}
use Rattle.std.specs.List.{range_with_len}
use Rattle.mach_base.specs.Machine.{Context}
use Rattle.mach_base.specs.declared.memory_range.Segment.{Segment}
use Rattle.mach_base.specs.declared.memory_range.Kind.{Kind}
use Rattle.mach_base.specs.declared.memory_range.Kind.TheVariants.{Text, Data, Rodata}
use Rattle.hart_ctx.specs.Context.{start_context}
use Rattle.mem_map.specs.Parts.{segments_of}
use Rattle.img_text.specs.Image.{ImageRecord}

-- the base of a segment of text, else the other address
abbrev base_if_text : Kind → ℕ → ℕ → ℕ
base_if_text Text base other = base
base_if_text Data base other = other
base_if_text Rodata base other = other

-- the base of the first text segment, or 0 where there is none
abbrev pub first_text : List Segment → ℕ
first_text [] = 0
first_text (s ∷ ss) = base_if_text s.kind s.base (first_text ss)

-- the context of a hart at the start: the image's pc for it, else the first text segment; the image's sp, else 0
abbrev pub first_context : ImageRecord → ℕ → Context
first_context image h =
    start_context (unwrap_or (slice_index_or image.pcs h None) (first_text (segments_of image.parts))) (unwrap_or (slice_index_or image.sps h None) 0)

-- the contexts of so many harts at the start
abbrev pub first_contexts : ImageRecord → ℕ → List Context
first_contexts image harts = map (first_context image) (range_with_len 0 harts)
