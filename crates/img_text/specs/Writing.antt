-- A text of the format kimg for an image.
use Rattle.std.specs.Prelude.{ℕ, ◌+◌, ◌/◌, ◌^◌, ◌<◌, ◌==◌, zero, suc, if◌then◌else◌, List, [], ◌∷◌, ◌++◌, length, take, drop, codes, Option, Some, None}
use Rattle.std.specs.Int.{w64, from_le_bytes}
use Rattle.mach_base.specs.declared.memory_range.Kind.{Kind}
use Rattle.mach_base.specs.declared.memory_range.Kind.TheVariants.{Text, Data, Rodata}
use Rattle.mach_base.specs.Number.{dec_text}
use Rattle.mach_base.specs.Machine.{Part}
use Rattle.img_text.specs.Image.{ImageRecord}

-- the numbers, each after a blank, and the line's end
abbrev pub numbers_text : List ℕ → List ℕ
numbers_text [] = 10 ∷ []
numbers_text (n ∷ ns) = 32 ∷ (dec_text n ++ numbers_text ns)

-- a line of a word and numbers
unfoldable pub directive_text : List ℕ → List ℕ → List ℕ
directive_text name ns = name ++ numbers_text ns

-- the word of a segment line
abbrev pub name_of : Kind → List ℕ
name_of Text = codes "text"
name_of Data = codes "data"
name_of Rodata = codes "rodata"

-- so many values of 8 bytes, the lowest byte first
unfoldable pub values_of : ℕ → List ℕ → List ℕ
values_of zero bytes = []
values_of (suc count) bytes = from_le_bytes w64 (take 8 bytes) ∷ values_of count (drop 8 bytes)

-- a line for each value
unfoldable pub values_text : List ℕ → List ℕ
values_text [] = []
values_text (v ∷ vs) = directive_text (codes "d") (v ∷ []) ++ values_text vs

-- a value before others, of which the zeros at the end are left out; it is left out with them where it is 0 itself
abbrev pub before_used : ℕ → List ℕ → List ℕ
before_used v [] = if v == 0 then [] else v ∷ []
before_used v (w ∷ ws) = v ∷ w ∷ ws

-- the values up to the last that isn't 0
unfoldable pub used_values : List ℕ → List ℕ
used_values [] = []
used_values (v ∷ vs) = before_used v (used_values vs)

-- the values of a segment that are written: the bytes after them are 0
abbrev pub written_values : List ℕ → List ℕ
written_values bytes = used_values (values_of (length bytes / 8) bytes)

-- a segment and its values
unfoldable pub part_text : Part → List ℕ
part_text p =
    directive_text (name_of p.segment.kind) (p.segment.base ∷ p.segment.len ∷ []) ++ values_text (written_values p.bytes)

-- the segments with their values, in order
unfoldable pub parts_text : List Part → List ℕ
parts_text [] = []
parts_text (p ∷ ps) = part_text p ++ parts_text ps

-- a start, if it is given
abbrev pub start_text : List ℕ → ℕ → Option ℕ → List ℕ
start_text name hart None = []
start_text name hart (Some addr) = directive_text name (hart ∷ addr ∷ [])

-- the starts that are given, from this hart number on
unfoldable pub starts_text : List ℕ → ℕ → List (Option ℕ) → List ℕ
starts_text name hart [] = []
starts_text name hart (start ∷ rest) = start_text name hart start ++ starts_text name (hart + 1) rest

-- an image: the first line, the segments, the starts
unfoldable pub image_text : ImageRecord → List ℕ
image_text image =
    directive_text (codes "kimg") (1 ∷ []) ++ (parts_text image.parts ++ (starts_text (codes "pc") 0 image.pcs ++ starts_text (codes "sp") 0 image.sps))

-- the address of a start, if it is given, fits 64 bits
abbrev pub StartFits : Option ℕ → Type 0
StartFits None = Unit {0}
StartFits (Some addr) = addr < 2 ^ 64
