-- The format kimg as a relation: what each line does by itself, what the lines before it allow, and the image that lines
-- mean. The words of a line are those of `words_of`.
use Rattle.std.specs.Prelude.{◌≡◌, ℕ, ◌+◌, ◌*◌, ◌<◌, ◌≤◌, ◌==◌, ◌⊎◌, ◌↔◌, true, false, List, [], ◌∷◌, ◌++◌, length, map, find, is_some, slice_index, slice_index_or, Option, Some, None, Ok, Err, nat_lt, nat_le, if◌then◌else◌}
use Rattle.std.specs.Option.{option_map}
use Rattle.std.specs.List.{flat_map}
use Rattle.mach_base.specs.declared.event.What.TheVariants.{Segments, Memory}
use Rattle.mach_base.specs.declared.memory_range.Kind.{Kind}
use Rattle.mach_base.specs.declared.memory_range.Segment.{Segment}
use Rattle.mach_base.specs.declared.limits.TheConstants.{MOST_HARTS, MOST_SEGMENTS, MOST_MEMORY}
use Rattle.mach_base.specs.Lines.{lines_of, words_of}
use Rattle.mach_base.specs.Machine.{Part, memory_size}
use Rattle.mem_map.specs.Parts.{segments_of}
use Rattle.img_text.specs.declared.fault.Why.{Why}
use Rattle.img_text.specs.declared.fault.Why.TheVariants.{Header, Bounds, Order, Overrun, Hart, NoText}
use Rattle.img_text.specs.declared.fault.ImageFault.TheVariants.{Bad, TooLarge}
use Rattle.img_text.specs.declared.directive.Directive.{Directive}
use Rattle.img_text.specs.declared.directive.Directive.TheVariants.{Begin, Put, Pc, Sp}
use Rattle.img_text.specs.Image.{ImageRecord, filled}
use Rattle.img_text.specs.Directives.{line_of, size_of}
use Rattle.img_text.specs.Reading.{has_bounds, value_bytes, has_text, is_header, image_of}

-- a directive with its numbers
abbrev pub Entry : Type 0
Entry = Directive × List ℕ

-- the directives of lines that are right by themselves, in order, without those of lines that are skipped
pub data Reads : List (List ℕ) → List Entry → Type 0 where
  nothing : Reads [] []
  skipped : (l : List ℕ) (ls : List (List ℕ)) (es : List Entry) → line_of (words_of l) ≡ Ok None → Reads ls es → Reads (l ∷ ls) es
  one_more : (l : List ℕ) (ls : List (List ℕ)) (e : Entry) (es : List Entry) → line_of (words_of l) ≡ Ok (Some e) → Reads ls es → Reads (l ∷ ls) (e ∷ es)

-- the segment that a segment line begins
abbrev pub segment_of : Kind → List ℕ → Segment
segment_of kind ns = record { base = slice_index ns 0; len = slice_index ns 1; kind = kind }

-- the bytes of the values before the next segment line
abbrev pub values_in : List Entry → List ℕ
values_in [] = []
values_in ((Begin kind, ns) ∷ es) = []
values_in ((Put width, ns) ∷ es) = flat_map (value_bytes width) ns ++ values_in es
values_in ((Pc, ns) ∷ es) = values_in es
values_in ((Sp, ns) ∷ es) = values_in es

-- the segments of the segment lines, each with the bytes of the values from there up to the next segment line
abbrev pub parts_in : List Entry → List Part
parts_in [] = []
parts_in ((Begin kind, ns) ∷ es) = record { segment = segment_of kind ns; bytes = values_in es } ∷ parts_in es
parts_in ((Put width, ns) ∷ es) = parts_in es
parts_in ((Pc, ns) ∷ es) = parts_in es
parts_in ((Sp, ns) ∷ es) = parts_in es

-- the starts of the lines `pc`, each a hart and an address
abbrev pub pcs_in : List Entry → List (ℕ × ℕ)
pcs_in [] = []
pcs_in ((Begin kind, ns) ∷ es) = pcs_in es
pcs_in ((Put width, ns) ∷ es) = pcs_in es
pcs_in ((Pc, ns) ∷ es) = (slice_index ns 0, slice_index ns 1) ∷ pcs_in es
pcs_in ((Sp, ns) ∷ es) = pcs_in es

-- those of the lines `sp`
abbrev pub sps_in : List Entry → List (ℕ × ℕ)
sps_in [] = []
sps_in ((Begin kind, ns) ∷ es) = sps_in es
sps_in ((Put width, ns) ∷ es) = sps_in es
sps_in ((Pc, ns) ∷ es) = sps_in es
sps_in ((Sp, ns) ∷ es) = (slice_index ns 0, slice_index ns 1) ∷ sps_in es

-- the address that is given to a hart, if one is
abbrev pub start_in : List (ℕ × ℕ) → ℕ → Option ℕ
start_in starts hart = option_map (λ s. s.1) (find (λ s. hart == s.0) starts)

-- the last of the parts
abbrev pub last_part : List Part → Option Part
last_part [] = None
last_part (p ∷ []) = Some p
last_part (p ∷ q ∷ ps) = last_part (q ∷ ps)

-- why a segment can't begin after the last part
abbrev pub segment_refusal : Option Part → Segment → Option Why
segment_refusal None s = if has_bounds s then None else Some Bounds
segment_refusal (Some p) s = if has_bounds s then (if nat_le (p.segment.base + p.segment.len) s.base then None else Some Order) else Some Bounds

-- why so many bytes can't be put after those of the last part
abbrev pub values_refusal : Option Part → ℕ → Option Why
values_refusal None size = Some Overrun
values_refusal (Some p) size = if nat_le (length p.bytes + size) p.segment.len then None else Some Overrun

-- why a hart can't be given a start after others were given theirs
abbrev pub start_refusal : List (ℕ × ℕ) → ℕ → Option Why
start_refusal starts hart = if nat_lt hart MOST_HARTS then (if is_some (start_in starts hart) then Some Hart else None) else Some Hart

-- why a directive can't follow others, if so
abbrev pub refusal_after : List Entry → Entry → Option Why
refusal_after before (Begin kind, ns) = segment_refusal (last_part (parts_in before)) (segment_of kind ns)
refusal_after before (Put width, ns) = values_refusal (last_part (parts_in before)) (size_of width * length ns)
refusal_after before (Pc, ns) = start_refusal (pcs_in before) (slice_index ns 0)
refusal_after before (Sp, ns) = start_refusal (sps_in before) (slice_index ns 0)

-- each of these directives may follow those before it, of which some come before the first
abbrev pub AreAllowed : List Entry → List Entry → Type 0
AreAllowed before [] = Unit {0}
AreAllowed before (e ∷ es) = (refusal_after before e ≡ None) × AreAllowed (before ++ e ∷ []) es

-- lines that are right, from the second on, and their directives
pub record AreRight (lines : List (List ℕ)) (es : List Entry) : Type 0 where
  pub reads : Reads lines es
  pub allowed : AreAllowed [] es

-- what is wrong with a line after these directives: by itself, or after them
abbrev pub IsWrong : List Entry → List ℕ → Why → Type 0
IsWrong before l why =
    (line_of (words_of l) ≡ Err why) ⊎ ((e : Entry) × (line_of (words_of l) ≡ Ok (Some e)) × (refusal_after before e ≡ Some why))

-- a line that isn't the header, where that must be
pub record HasNoHeader (lines : List (List ℕ)) : Type 0 where
  pub none : (l : List ℕ) (ls : List (List ℕ)) → lines ≡ l ∷ ls → is_header (words_of l) ≡ false

-- The line of this number is the first that is wrong, and this is what is wrong with it.
pub record IsFirstBad (lines : List (List ℕ)) (number : ℕ) (why : Why) : Type 0 where
  pub header : List ℕ
  pub before : List (List ℕ)
  pub line : List ℕ
  pub after : List (List ℕ)
  pub split : lines ≡ header ∷ before ++ line ∷ after
  pub is_header : is_header (words_of header) ≡ true
  pub place : number ≡ length before + 2
  pub entries : List Entry
  pub right : AreRight before entries
  pub wrong : IsWrong entries line why

-- the header and lines that are right
pub record AreLines (lines : List (List ℕ)) (es : List Entry) : Type 0 where
  pub header : List ℕ
  pub rest : List (List ℕ)
  pub split : lines ≡ header ∷ rest
  pub is_header : is_header (words_of header) ≡ true
  pub right : AreRight rest es

-- what is bad with these lines, and at which number
abbrev pub IsBad : List (List ℕ) → ℕ → Why → Type 0
IsBad lines number why =
    (HasNoHeader lines × (number ≡ 1) × (why ≡ Header)) ⊎
    (IsFirstBad lines number why ⊎
    ((es : List Entry) × AreLines lines es × (has_text (segments_of (parts_in es)) ≡ false) × (number ≡ length lines + 1) × (why ≡ NoText)))

-- The image that lines mean: its segments are those of the segment lines, each begins with the bytes of its values and goes
-- on with zeros, and each hart's starts are those of its lines.
pub record IsImageOf (es : List Entry) (image : ImageRecord) : Type 0 where
  pub text : has_text (segments_of (parts_in es)) ≡ true
  pub few : length (parts_in es) ≤ MOST_SEGMENTS
  pub small : memory_size (segments_of (parts_in es)) ≤ MOST_MEMORY
  pub parts : image.parts ≡ map (λ p. filled p.segment p.bytes) (parts_in es)
  pub pcs : (hart : ℕ) → slice_index_or image.pcs hart None ≡ start_in (pcs_in es) hart
  pub sps : (hart : ℕ) → slice_index_or image.sps hart None ≡ start_in (sps_in es) hart

-- a text is bad at a line exactly where that is so
abbrev pub NamesTheFirstBadLine : Type 0
NamesTheFirstBadLine = (text : List ℕ) (number : ℕ) (why : Why) → (image_of text ≡ Err (Bad number why)) ↔ IsBad (lines_of text) number why

-- the image of a text is what its lines mean
abbrev pub IsWhatTheLinesMean : Type 0
IsWhatTheLinesMean = (text : List ℕ) (image : ImageRecord) → image_of text ≡ Ok image → (es : List Entry) × AreLines (lines_of text) es × IsImageOf es image

-- segments of which one is text, and more than an image may have: so many
pub record AreTooMany (parts : List Part) (size : ℕ) : Type 0 where
  pub text : has_text (segments_of parts) ≡ true
  pub count : size ≡ length parts
  pub many : MOST_SEGMENTS < size

-- segments of which one is text, not too many, and more memory than an image may have: so much
pub record AreTooLarge (parts : List Part) (size : ℕ) : Type 0 where
  pub text : has_text (segments_of parts) ≡ true
  pub few : length parts ≤ MOST_SEGMENTS
  pub count : size ≡ memory_size (segments_of parts)
  pub large : MOST_MEMORY < size

-- lines that are right, by the relation of a format, and have segments so many or so large
abbrev pub HaveSegments : (List (List ℕ) → List Entry → Type 0) → (List Part → ℕ → Type 0) → List (List ℕ) → ℕ → Type 0
HaveSegments AreRightLines Are lines size = (es : List Entry) × AreRightLines lines es × Are (parts_in es) size

-- a text is too large exactly where its lines have too many segments, or else too much memory
abbrev pub CountsItsMemory : Type 0
CountsItsMemory =
    (text : List ℕ) (size : ℕ) →
    ((image_of text ≡ Err (TooLarge Segments size)) ↔ HaveSegments AreLines AreTooMany (lines_of text) size) ×
    ((image_of text ≡ Err (TooLarge Memory size)) ↔ HaveSegments AreLines AreTooLarge (lines_of text) size)
