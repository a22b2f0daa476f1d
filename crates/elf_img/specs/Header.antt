-- The header of an object file (ELF-64 object file format, "ELF header"), and what is wrong with it.
use Rattle.std.specs.Prelude.{ℕ, ◌*◌, ◌%◌, ◌==◌, ◌&&◌, ◌||◌, Bool, not, List, [], ◌∷◌, length, slice_index, nat_lt}
use Rattle.mach_base.specs.declared.event.What.TheVariants.{ElfBytes}
use Rattle.mach_base.specs.declared.limits.TheConstants.{ELF_BYTES}
use Rattle.elf_img.specs.declared.fault.ElfWhy.TheVariants.{Short, Magic, FileType, Machine, Compressed, HeaderSize}
use Rattle.elf_img.specs.declared.fault.ElfFault.TheVariants.{Bad, TooLarge}
use Rattle.elf_img.specs.Bytes.{half_at, word_at, double_at, is_inside}
use Rattle.elf_img.specs.Causes.{Cause}

-- e_entry: the address of the first instruction
abbrev pub entry : List ℕ → ℕ
entry file = double_at file 24

-- e_phoff: where the program headers begin
abbrev pub program_offset : List ℕ → ℕ
program_offset file = double_at file 32

-- e_phnum: the number of program headers
abbrev pub program_count : List ℕ → ℕ
program_count file = half_at file 56

-- e_shoff: where the section headers begin
abbrev pub section_offset : List ℕ → ℕ
section_offset file = double_at file 40

-- e_shnum: the number of section headers
abbrev pub section_count : List ℕ → ℕ
section_count file = half_at file 60

-- the table of program headers, 56 bytes each, lies inside the file
abbrev pub has_programs : List ℕ → Bool
has_programs file = is_inside (length file) (program_offset file) (56 * program_count file)

-- so does that of section headers, 64 bytes each
abbrev pub has_sections : List ℕ → Bool
has_sections file = is_inside (length file) (section_offset file) (64 * section_count file)

-- the file is larger than any that is read
abbrev pub is_too_long : List ℕ → Bool
is_too_long file = nat_lt ELF_BYTES (length file)

-- the header isn't whole, or a table of headers isn't
abbrev pub is_short : List ℕ → Bool
is_short file = nat_lt (length file) 64 || not (has_programs file && has_sections file)

-- e_ident: the four magic bytes, 64 bits, the lowest byte first, version 1
abbrev pub has_magic : List ℕ → Bool
has_magic file =
    (slice_index file 0 == 0x7f) && (slice_index file 1 == 0x45) && (slice_index file 2 == 0x4c) && (slice_index file 3 == 0x46)
    && (slice_index file 4 == 2) && (slice_index file 5 == 1) && (slice_index file 6 == 1)

-- e_type: an executable with fixed addresses, ET_EXEC
abbrev pub is_executable_file : List ℕ → Bool
is_executable_file file = half_at file 16 == 2

-- e_machine: RISC-V, EM_RISCV
abbrev pub is_riscv : List ℕ → Bool
is_riscv file = half_at file 18 == 243

-- e_flags: bit 0, EF_RISCV_RVC of the RISC-V ABI, is set where there is compressed code
abbrev pub is_compressed : List ℕ → Bool
is_compressed file = word_at file 48 % 2 == 1

-- e_phentsize and e_shentsize: headers, where there are any, have the sizes of ELF-64
abbrev pub has_header_sizes : List ℕ → Bool
has_header_sizes file =
    ((program_count file == 0) || (half_at file 54 == 56)) && ((section_count file == 0) || (half_at file 58 == 64))

-- what can be wrong with the header
unfoldable pub header_causes : List ℕ → List Cause
header_causes file =
    (is_too_long file, TooLarge ElfBytes (length file))
    ∷ (is_short file, Bad Short)
    ∷ (not (has_magic file), Bad Magic)
    ∷ (not (is_executable_file file), Bad FileType)
    ∷ (not (is_riscv file), Bad Machine)
    ∷ (is_compressed file, Bad Compressed)
    ∷ (not (has_header_sizes file), Bad HeaderSize)
    ∷ []
