-- The symbols of an executable (ELF-64 object file format, "Symbol table"), and the map that they make.
use Rattle.std.specs.Prelude.{ℕ, zero, suc, ◌+◌, ◌*◌, ◌/◌, ◌%◌, ◌==◌, ◌&&◌, ◌||◌, Bool, true, not, List, [], ◌∷◌, ◌++◌, length, take, drop, position, Option, Some, None, slice_index, nat_lt, nat_le, if◌then◌else◌}
use Rattle.std.specs.Option.{option_map, option_to_list}
use Rattle.std.specs.List.{list_all}
use Rattle.mach_base.specs.declared.event.What.TheVariants.{MapBytes}
use Rattle.mach_base.specs.declared.event.What.TheVariants as sizes
use Rattle.mach_base.specs.declared.limits.TheConstants.{MOST_SYMBOLS, MAP_BYTES}
use Rattle.elf_img.specs.declared.fault.ElfFault.TheVariants.{TooLarge}
use Rattle.elf_img.specs.Bytes.{half_at, word_at, double_at}
use Rattle.elf_img.specs.Causes.{Cause}
use Rattle.elf_img.specs.Sections.{SymbolTable, table_in, section_headers}
use Rattle.elf_img.specs.MapText.{MapSymbol, map_text}

-- the bytes up to the first 0, if one is there
abbrev pub up_to_zero : List ℕ → Option (List ℕ)
up_to_zero bytes = option_map (λ end. take end bytes) (position (λ b. b == 0) bytes)

-- the name at an offset of the names: the bytes up to the first 0, which stands among the first 256, so that no name is
-- longer than 255 bytes
abbrev pub name_at : List ℕ → ℕ → Option (List ℕ)
name_at names offset = up_to_zero (take 256 (drop offset names))

-- whether the byte is one of 0x21 to 0x7e
abbrev pub is_graphic : ℕ → Bool
is_graphic b = nat_le 0x21 b && nat_le b 0x7e

-- whether there is no name, or it begins with $ or .L, as names do that assemblers and linkers make
abbrev pub is_made_up : List ℕ → Bool
is_made_up [] = true
is_made_up (a ∷ []) = a == 36
is_made_up (a ∷ b ∷ rest) = (a == 36) || ((a == 46) && (b == 76))

-- whether a name goes into the map
abbrev pub is_listed_name : List ℕ → Bool
is_listed_name name = list_all is_graphic name && not (is_made_up name)

-- st_info: its low four bits are the symbol's type
abbrev pub symbol_kind : List ℕ → ℕ → ℕ
symbol_kind entries at = slice_index entries (at + 4) % 16

-- whether a symbol's type is none, object or function (STT_NOTYPE, STT_OBJECT, STT_FUNC), and st_shndx isn't SHN_UNDEF
abbrev pub is_listed : List ℕ → ℕ → Bool
is_listed entries at = nat_le (symbol_kind entries at) 2 && not (half_at entries (at + 6) == 0)

-- Elf64_Sym: st_value and the type of the symbol at an offset, with its name, if it goes into the map
abbrev pub with_name : List ℕ → ℕ → Option (List ℕ) → Option MapSymbol
with_name entries at None = None
with_name entries at (Some name) =
    if is_listed entries at && is_listed_name name then Some (record { address = double_at entries (at + 8); is_function = symbol_kind entries at == 2; name = name }) else None

-- the symbol of an entry, of 24 bytes, if it goes into the map; st_name is the offset of its name
abbrev pub symbol_at : SymbolTable → ℕ → Option MapSymbol
symbol_at table i = with_name table.entries (24 * i) (name_at table.names (word_at table.entries (24 * i)))

-- the symbols of the entries before this one, in order
unfoldable pub symbols_before : SymbolTable → ℕ → List MapSymbol
symbols_before table zero = []
symbols_before table (suc i) = symbols_before table i ++ option_to_list (symbol_at table i)

-- the symbols of a table, none without a table
abbrev pub symbols_in : Option SymbolTable → List MapSymbol
symbols_in None = []
symbols_in (Some table) = symbols_before table (length table.entries / 24)

-- the symbols of an executable that go into its map, in the order of its first symbol table
abbrev pub symbols : List ℕ → List MapSymbol
symbols file = symbols_in (table_in file (section_headers file))

-- there can be too many symbols, or too long a map
unfoldable pub symbol_causes : List MapSymbol → List Cause
symbol_causes ss =
    (nat_lt MOST_SYMBOLS (length ss), TooLarge sizes.Symbols (length ss))
    ∷ (nat_lt MAP_BYTES (length (map_text ss)), TooLarge MapBytes (length (map_text ss)))
    ∷ []
