-- The source format kasm: the image that a text means.
use Rattle.std.specs.Prelude.{◌≡◌, ℕ, ◌+◌, Bool, false, List, [], ◌∷◌, ◌++◌, length, codes, Option, Some, None, Result, Ok, Err, nat_lt, if◌then◌else◌}
use Rattle.mach_base.specs.declared.event.What.TheVariants as counts
use Rattle.mach_base.specs.declared.limits.TheConstants.{SOURCE_BYTES}
use Rattle.mach_base.specs.Lines.{lines_of, words_of, is_header_of}
use Rattle.mach_base.specs.Number.{dec_text}
use Rattle.img_text.specs.declared.fault.ImageFault.{ImageFault}
use Rattle.img_text.specs.declared.fault.ImageFault.TheVariants as image_faults
use Rattle.img_text.specs.Image.{ImageRecord}
use Rattle.img_text.specs.Reading.{image_of_lines}
use Rattle.asm_text.specs.declared.fault.SourceFault.{SourceFault}
use Rattle.asm_text.specs.declared.fault.SourceFault.TheVariants.{Bad, TooLarge, OutOfMemory}
use Rattle.asm_text.specs.declared.kind.LineKind.{LineKind}
use Rattle.asm_text.specs.declared.kind.LineKind.TheVariants.{Skipped, Segment, Values, Start, Label, Instruction}
use Rattle.asm_text.specs.Kinds.{kind_of, label_of, place_after}
use Rattle.asm_text.specs.Labels.{Labels, given, is_given_at, labels_of}
use Rattle.asm_text.specs.Instructions.{trimmed, word_at}

-- what a call refused is what reading refuses, unless memory ran out
abbrev pub IsFault : {A : Type 0} → SourceFault → Result A SourceFault → Type 0
IsFault (Bad line) read = read ≡ Err (Bad line)
IsFault (TooLarge what size) read = read ≡ Err (TooLarge what size)
IsFault OutOfMemory read = Unit {0}

-- so is what it gave where it didn't refuse
abbrev pub Gives : {A : Type 0} → Result A SourceFault → Result A SourceFault → Type 0
Gives (Ok x) read = read ≡ Ok x
Gives (Err fault) read = IsFault fault read

-- the fault of an image, as that of a source
abbrev pub source_fault : ImageFault → SourceFault
source_fault (image_faults.Bad line why) = Bad line
source_fault (image_faults.TooLarge what size) = TooLarge what size
source_fault image_faults.OutOfMemory = OutOfMemory

-- what is read of an image, as what is read of a source
abbrev pub as_source : Result ImageRecord ImageFault → Result ImageRecord SourceFault
as_source (Ok image) = Ok image
as_source (Err fault) = Err (source_fault fault)

-- the line of the image format that puts a word; the line itself where there is none
abbrev pub word_line : Option ℕ → List ℕ → List ℕ
word_line None l = l
word_line (Some word) l = codes "w " ++ dec_text word

-- whether a label is the first of its name, by the line's number
abbrev pub is_first : Labels → ℕ → Option (List ℕ) → Bool
is_first labels number None = false
is_first labels number (Some name) = is_given_at (given labels name) number

-- the line of the image format that stands for a line of this kind
abbrev pub line_by : LineKind → Labels → ℕ → Option ℕ → List ℕ → List ℕ
line_by Skipped labels number place l = l
line_by Segment labels number place l = l
line_by (Values unit) labels number place l = l
line_by Start labels number place l = l
line_by Label labels number place l = if is_first labels number (label_of (words_of l)) then [] else l
line_by Instruction labels number place l = word_line (word_at labels place (trimmed l)) l

-- The line of the image format that stands for a line of a source: nothing for a label that is the first of its name, the
-- word for an instruction, and every other line for itself. An instruction and a label that aren't right stand for
-- themselves too, and the image format has no such lines.
unfoldable pub image_line : Labels → ℕ → Option ℕ → List ℕ → List ℕ
image_line labels number place l = line_by (kind_of (words_of l)) labels number place l

-- those of lines of which the first has this number and this place
unfoldable pub image_lines : Labels → ℕ → Option ℕ → List (List ℕ) → List (List ℕ)
image_lines labels number place [] = []
image_lines labels number place (l ∷ ls) = image_line labels number place l ∷ image_lines labels (number + 1) (place_after place (words_of l)) ls

-- whether the words are those of a source's first line
abbrev pub is_header : List (List ℕ) → Bool
is_header words = is_header_of (codes "kasm") words

-- the first line of an image
abbrev pub image_header : List ℕ
image_header = codes "kimg 1"

-- the lines of the image that stand for the lines after a source's first
abbrev pub lines_for : List (List ℕ) → List (List ℕ)
lines_for ls = image_lines (labels_of ls) 2 None ls

-- The image that lines mean, or the first faulty line, or the first count over its limit.
unfoldable pub source_of_lines : List (List ℕ) → Result ImageRecord SourceFault
source_of_lines [] = Err (Bad 1)
source_of_lines (l ∷ ls) = if is_header (words_of l) then as_source (image_of_lines (image_header ∷ lines_for ls)) else Err (Bad 1)

-- The image that a text means, or why it means none.
abbrev pub source_of : List ℕ → Result ImageRecord SourceFault
source_of text = if nat_lt SOURCE_BYTES (length text) then Err (TooLarge counts.SourceBytes (length text)) else source_of_lines (lines_of text)

-- the text of lines, each with a carriage return and a line feed, so that a line that ends with a carriage return stays
unfoldable pub lines_text : List (List ℕ) → List ℕ
lines_text [] = []
lines_text (l ∷ ls) = l ++ (13 ∷ 10 ∷ lines_text ls)
