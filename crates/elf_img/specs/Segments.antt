-- The segments of an executable (ELF-64 object file format, "Program header table"), the image that they make, and what is
-- wrong with them.
use Rattle.std.specs.Prelude.{ℕ, ◌+◌, ◌-◌, ◌*◌, ◌/◌, ◌%◌, ◌==◌, ◌&&◌, ◌||◌, Bool, true, not, List, [], ◌∷◌, ◌++◌, length, map, replicate, sum_by, Some, None, nat_lt, nat_le, if◌then◌else◌}
use Rattle.std.specs.List.{range_with_len, filter, list_any, list_all}
use Rattle.mach_base.specs.declared.event.What.TheVariants.{Memory, FileBytes}
use Rattle.mach_base.specs.declared.event.What.TheVariants as sizes
use Rattle.mach_base.specs.declared.limits.TheConstants.{MOST_HARTS, MOST_SEGMENTS, MOST_MEMORY}
use Rattle.mach_base.specs.declared.memory_range.Kind.{Kind}
use Rattle.mach_base.specs.declared.memory_range.Kind.TheVariants.{Text, Data, Rodata}
use Rattle.mach_base.specs.declared.memory_range.Segment.{Segment}
use Rattle.mach_base.specs.Machine.{Part, memory_size}
use Rattle.img_text.specs.Image.{ImageRecord, filled}
use Rattle.img_text.specs.Reading.{has_text}
use Rattle.elf_img.specs.declared.TheConstants.{MOST_FILE_BYTES}
use Rattle.elf_img.specs.declared.program.ProgramHeader.{ProgramHeader}
use Rattle.elf_img.specs.declared.fault.ElfWhy.TheVariants.{Dynamic, Bounds, WriteExec, Order, NoText}
use Rattle.elf_img.specs.declared.fault.ElfFault.TheVariants.{Bad, TooLarge}
use Rattle.elf_img.specs.Bytes.{word_at, double_at, is_inside, range_at}
use Rattle.elf_img.specs.Causes.{Cause}
use Rattle.elf_img.specs.Header.{entry, program_offset, program_count}

-- Elf64_Phdr: p_type, p_flags, p_offset, p_vaddr, p_filesz and p_memsz of the program header at an offset
abbrev pub program_header_at : List ℕ → ℕ → ProgramHeader
program_header_at file at = record {
  kind = word_at file at;
  flags = word_at file (at + 4);
  offset = double_at file (at + 8);
  address = double_at file (at + 16);
  file_size = double_at file (at + 32);
  memory_size = double_at file (at + 40);
}

-- the program headers, in order
abbrev pub program_headers : List ℕ → List ProgramHeader
program_headers file = map (λ i. program_header_at file (program_offset file + 56 * i)) (range_with_len 0 (program_count file))

-- p_type is PT_DYNAMIC or PT_INTERP: the program wants a dynamic linker
abbrev pub is_dynamic : ProgramHeader → Bool
is_dynamic h = (h.kind == 2) || (h.kind == 3)

-- p_type is PT_LOAD, and there is memory to be loaded
abbrev pub is_load : ProgramHeader → Bool
is_load h = (h.kind == 1) && nat_lt 0 h.memory_size

-- the program headers of segments that are loaded
abbrev pub loads : List ℕ → List ProgramHeader
loads file = filter is_load (program_headers file)

-- its bytes lie inside a file of this length, there are no more of them than of memory, and the memory, rounded up to a
-- multiple of 8, ends at 2^63 or below
abbrev pub has_bounds : ℕ → ProgramHeader → Bool
has_bounds len h =
    is_inside len h.offset h.file_size && nat_le h.file_size h.memory_size && nat_le (h.address + h.memory_size) 0x7fff_ffff_ffff_fff8

-- p_flags has PF_X
abbrev pub is_executable : ProgramHeader → Bool
is_executable h = h.flags % 2 == 1

-- p_flags has PF_W
abbrev pub is_writable : ProgramHeader → Bool
is_writable h = h.flags / 2 % 2 == 1

-- it has both
abbrev pub is_write_exec : ProgramHeader → Bool
is_write_exec h = is_executable h && is_writable h

-- what may be done in the segment
abbrev pub kind_of : ProgramHeader → Kind
kind_of h = if is_executable h then Text else (if is_writable h then Data else Rodata)

-- its address, rounded down to a multiple of 8
abbrev pub base_of : ProgramHeader → ℕ
base_of h = h.address / 8 * 8

-- where its memory ends, rounded up to a multiple of 8
abbrev pub end_of : ProgramHeader → ℕ
end_of h = (h.address + h.memory_size + 7) / 8 * 8

-- the segment of memory that it becomes
abbrev pub segment_of : ProgramHeader → Segment
segment_of h = record { base = base_of h; len = end_of h - base_of h; kind = kind_of h }

-- the segments of the executable
abbrev pub segments : List ℕ → List Segment
segments file = map segment_of (loads file)

-- each segment begins at this address or above, and at or above the end of the one before
abbrev pub are_in_order : ℕ → List Segment → Bool
are_in_order end [] = true
are_in_order end (s ∷ ss) = nat_le end s.base && are_in_order (s.base + s.len) ss

-- zeros up to the address, then the bytes that the file has for the segment
abbrev pub bytes_of : List ℕ → ProgramHeader → List ℕ
bytes_of file h = replicate (h.address - base_of h) 0 ++ range_at file h.offset h.file_size

-- the segment with these bytes, and zeros after them
abbrev pub part_of : List ℕ → ProgramHeader → Part
part_of file h = filled (segment_of h) (bytes_of file h)

-- The image of an executable: its segments with their bytes. Each hart that a machine may have starts at the entry, and no
-- hart is given a stack pointer.
abbrev pub elf_image : List ℕ → ImageRecord
elf_image file = record {
  parts = map (part_of file) (loads file);
  pcs = replicate MOST_HARTS (Some (entry file));
  sps = replicate MOST_HARTS None;
}

-- how many bytes the file has for all segments together
abbrev pub file_bytes : List ProgramHeader → ℕ
file_bytes hs = sum_by (λ h. h.file_size) hs

-- what can be wrong with the program headers of a file of this length: with all of them, and by themselves with those that
-- are loaded
unfoldable pub program_causes : ℕ → List ProgramHeader → List Cause
program_causes len headers =
    (list_any is_dynamic headers, Bad Dynamic)
    ∷ (not (list_all (has_bounds len) (filter is_load headers)), Bad Bounds)
    ∷ (list_any is_write_exec (filter is_load headers), Bad WriteExec)
    ∷ []

-- what can be wrong with segments together
unfoldable pub segment_causes : List Segment → List Cause
segment_causes ss =
    (not (are_in_order 0 ss), Bad Order)
    ∷ (not (has_text ss), Bad NoText)
    ∷ (nat_lt MOST_SEGMENTS (length ss), TooLarge sizes.Segments (length ss))
    ∷ (nat_lt MOST_MEMORY (memory_size ss), TooLarge Memory (memory_size ss))
    ∷ []

-- the file has more bytes for the segments than are taken
unfoldable pub size_causes : List ProgramHeader → List Cause
size_causes hs = (nat_lt MOST_FILE_BYTES (file_bytes hs), TooLarge FileBytes (file_bytes hs)) ∷ []
