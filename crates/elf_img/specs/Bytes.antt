-- The data of an object file by its offset, the lowest byte first (ELF-64 object file format, "Data representation"). A
-- byte past the file's end counts as 0. All numbers are natural, so that no sum wraps.
use Rattle.std.specs.Prelude.{ℕ, ◌+◌, ◌*◌, ◌^◌, ◌==◌, ◌||◌, Bool, List, take, drop, slice_index, nat_le}

-- Elf64_Half: the 2 bytes from an offset on
unfoldable pub half_at : List ℕ → ℕ → ℕ
half_at file at = slice_index file at + slice_index file (at + 1) * 256

-- Elf64_Word: 4 bytes
unfoldable pub word_at : List ℕ → ℕ → ℕ
word_at file at = half_at file at + half_at file (at + 2) * 2 ^ 16

-- Elf64_Xword, Elf64_Addr and Elf64_Off: 8 bytes
unfoldable pub double_at : List ℕ → ℕ → ℕ
double_at file at = word_at file at + word_at file (at + 4) * 2 ^ 32

-- whether so many bytes from an offset on lie inside a file of this length; an empty range lies inside every file
abbrev pub is_inside : ℕ → ℕ → ℕ → Bool
is_inside len at size = (size == 0) || nat_le (at + size) len

-- the bytes of such a range
abbrev pub range_at : List ℕ → ℕ → ℕ → List ℕ
range_at file at size = take size (drop at file)
