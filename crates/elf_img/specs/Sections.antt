-- The section headers of an object file (ELF-64 object file format, "Sections"), and the two tables that symbols are read
-- from.
use Rattle.std.specs.Prelude.{ℕ, ◌+◌, ◌*◌, ◌==◌, Bool, List, length, map, find, Option, Some, None, slice_get, if◌then◌else◌}
use Rattle.std.specs.Option.{option_and_then}
use Rattle.std.specs.List.{range_with_len}
use Rattle.elf_img.specs.declared.section.SectionHeader.{SectionHeader}
use Rattle.elf_img.specs.Bytes.{word_at, double_at, is_inside, range_at}
use Rattle.elf_img.specs.Header.{section_offset, section_count}

-- Elf64_Shdr: sh_type, sh_offset, sh_size and sh_link of the section header at an offset
abbrev pub section_header_at : List ℕ → ℕ → SectionHeader
section_header_at file at = record {
  kind = word_at file (at + 4);
  offset = double_at file (at + 24);
  size = double_at file (at + 32);
  link = word_at file (at + 40);
}

-- the section headers, in order
abbrev pub section_headers : List ℕ → List SectionHeader
section_headers file = map (λ i. section_header_at file (section_offset file + 64 * i)) (range_with_len 0 (section_count file))

-- sh_type is SHT_SYMTAB
abbrev pub is_symbol_table : SectionHeader → Bool
is_symbol_table h = h.kind == 2

-- the bytes of a section that lies inside the file
abbrev pub contents : List ℕ → SectionHeader → Option (List ℕ)
contents file h = if is_inside (length file) h.offset h.size then Some (range_at file h.offset h.size) else None

-- the bytes of a symbol table and of its names
pub record SymbolTable : Type 0 where
  pub entries : List ℕ
  pub names : List ℕ

-- a table with these entries and these names, if both are there
abbrev pub with_names : Option (List ℕ) → Option (List ℕ) → Option SymbolTable
with_names None names = None
with_names (Some entries) None = None
with_names (Some entries) (Some names) = Some (record { entries = entries; names = names })

-- the symbol table of a section, whose names are in the section that sh_link says
abbrev pub table_of : List ℕ → List SectionHeader → SectionHeader → Option SymbolTable
table_of file headers h = with_names (contents file h) (option_and_then (contents file) (slice_get headers h.link))

-- the first symbol table of these sections, if it lies inside the file together with its names
abbrev pub table_in : List ℕ → List SectionHeader → Option SymbolTable
table_in file headers = option_and_then (table_of file headers) (find is_symbol_table headers)
