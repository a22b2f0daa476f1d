-- What a line of a source is by its words, and how it moves the place at which the next byte stands.
use Rattle.std.specs.Prelude.{ℕ, ◌+◌, ◌-◌, ◌*◌, ◌%◌, ◌^◌, ◌==◌, ◌&&◌, ◌||◌, Bool, false, List, [], ◌∷◌, length, take, drop, codes, Option, Some, None, nat_le, if◌then◌else◌}
use Rattle.std.specs.Result.{result_ok}
use Rattle.std.specs.List.{list_all}
use Rattle.std.specs.Str.{bytes_eq}
use Rattle.std.specs.Char.{is_ascii_alphabetic, is_ascii_alphanumeric}
use Rattle.mach_base.specs.Number.{number_of}
use Rattle.mach_base.specs.Lines.{is_comment}
use Rattle.asm_text.specs.declared.kind.LineKind.{LineKind}
use Rattle.asm_text.specs.declared.kind.LineKind.TheVariants.{Skipped, Segment, Values, Start, Label, Instruction}

-- a letter, a digit or _
abbrev pub is_name_byte : ℕ → Bool
is_name_byte b = is_ascii_alphanumeric b || (b == 95)

-- a name: a letter, and then letters, digits or _, at most 255 bytes
abbrev pub is_name : List ℕ → Bool
is_name [] = false
is_name (b ∷ bs) = is_ascii_alphabetic b && (list_all is_name_byte bs && nat_le (length bs) 254)

-- all but the last byte of a word
abbrev pub front : List ℕ → List ℕ
front word = take (length word - 1) word

-- the name in front of the colon that ends a word
abbrev pub name_in : List ℕ → Option (List ℕ)
name_in word = if bytes_eq (drop (length word - 1) word) (codes ":") && is_name (front word) then Some (front word) else None

-- the name that the words of a line give: one word, a name and a colon
abbrev pub label_of : List (List ℕ) → Option (List ℕ)
label_of [] = None
label_of (word ∷ []) = name_in word
label_of (word ∷ more ∷ rest) = None

-- what a line is by the directive of the image format that its first word is
abbrev pub directive_kind : List ℕ → Option LineKind
directive_kind word =
    if bytes_eq word (codes "text") then Some Segment else (
    if bytes_eq word (codes "data") then Some Segment else (
    if bytes_eq word (codes "rodata") then Some Segment else (
    if bytes_eq word (codes "b") then Some (Values 1) else (
    if bytes_eq word (codes "w") then Some (Values 4) else (
    if bytes_eq word (codes "d") then Some (Values 8) else (
    if bytes_eq word (codes "pc") then Some Start else (
    if bytes_eq word (codes "sp") then Some Start else None)))))))

-- a label where the words give a name, else an instruction
abbrev pub label_or_instruction : Option (List ℕ) → LineKind
label_or_instruction (Some name) = Label
label_or_instruction None = Instruction

-- what a line is where its first word is no comment
abbrev pub kind_or : Option LineKind → Option (List ℕ) → LineKind
kind_or (Some kind) name = kind
kind_or None name = label_or_instruction name

-- What a line is by its words: skipped, a line of the image format, a label, and else an instruction, right or not.
unfoldable pub kind_of : List (List ℕ) → LineKind
kind_of [] = Skipped
kind_of (word ∷ words) = if is_comment word then Skipped else kind_or (directive_kind word) (label_of (word ∷ words))

-- the base of a segment by the words after its directive
abbrev pub base_of : List (List ℕ) → Option ℕ
base_of [] = None
base_of (word ∷ words) = result_ok (number_of 10 word)

-- so many bytes further, in 64 bits
abbrev pub moved : Option ℕ → ℕ → Option ℕ
moved None bytes = None
moved (Some place) bytes = Some ((place + bytes) % 2 ^ 64)

-- the place after a line of this kind, by the words after its first
abbrev pub place_by : LineKind → Option ℕ → List (List ℕ) → Option ℕ
place_by Skipped place words = place
place_by Segment place words = base_of words
place_by (Values unit) place words = moved place (unit * length words)
place_by Start place words = place
place_by Label place words = place
place_by Instruction place words = moved place 4

-- The address at which the next byte stands after a line, by the line's words; none before any segment. A segment goes
-- on from its base, a value takes its bytes and an instruction four.
unfoldable pub place_after : Option ℕ → List (List ℕ) → Option ℕ
place_after place [] = place
place_after place (word ∷ words) = place_by (kind_of (word ∷ words)) place words
