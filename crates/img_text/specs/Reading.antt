-- The image format kimg: the image that a text means.
use Rattle.std.specs.Prelude.{◌≡◌, ℕ, ◌+◌, ◌*◌, ◌%◌, ◌^◌, ◌≤◌, ◌==◌, ◌&&◌, Bool, List, [], ◌∷◌, ◌++◌, length, map, reverse, replicate, slice_index, slice_index_or, slice_set, codes, Option, Some, None, is_none, Result, Ok, Err, nat_lt, nat_le, if◌then◌else◌}
use Rattle.std.specs.List.{list_any, flat_map}
use Rattle.std.specs.Int.{bytes_low_first}
use Rattle.mach_base.specs.declared.event.What.TheVariants.{Segments, Memory}
use Rattle.mach_base.specs.declared.memory_range.Segment.{Segment}
use Rattle.mach_base.specs.declared.limits.TheConstants.{MOST_HARTS, MOST_SEGMENTS, MOST_MEMORY}
use Rattle.mach_base.specs.Machine.{Part, HasBounds, memory_size, is_text_segment}
use Rattle.img_text.specs.declared.fault.Why.{Why}
use Rattle.img_text.specs.declared.fault.Why.TheVariants.{Header, Bounds, Order, Overrun, Hart, NoText}
use Rattle.img_text.specs.declared.fault.ImageFault.{ImageFault}
use Rattle.img_text.specs.declared.fault.ImageFault.TheVariants.{Bad, TooLarge, OutOfMemory}
use Rattle.img_text.specs.declared.fault.LineFault.{LineFault}
use Rattle.img_text.specs.declared.fault.LineFault.TheVariants as line_faults
use Rattle.img_text.specs.declared.directive.Width.{Width}
use Rattle.img_text.specs.declared.directive.Directive.{Directive}
use Rattle.img_text.specs.declared.directive.Directive.TheVariants.{Begin, Put, Pc, Sp}
use Rattle.mach_base.specs.Lines.{lines_of, words_of, is_header_of}
use Rattle.mem_map.specs.Parts.{segments_of}
use Rattle.img_text.specs.Image.{ImageRecord, filled}
use Rattle.mach_base.specs.Sequence.{◌>>=◌}
use Rattle.img_text.specs.Directives.{line_of, size_of}

-- what the lines so far give: the segments, the latest first, each with the bytes that were put into it, and for each
-- hart number the starts
pub record Draft : Type 0 where
  pub parts : List Part
  pub pcs : List (Option ℕ)
  pub sps : List (Option ℕ)

-- what a call refused is what reading refuses, unless memory ran out
abbrev pub IsRefusal : {A : Type 0} → LineFault → Result A Why → Type 0
IsRefusal (line_faults.Refused why) read = read ≡ Err why
IsRefusal line_faults.NoMemory read = Unit {0}

-- what a call left, where it didn't refuse
abbrev pub Leaves : {A : Type 0} → Result (Unit {0}) LineFault → A → Result A Why → Type 0
Leaves (Ok _) after read = read ≡ Ok after
Leaves (Err fault) after read = IsRefusal fault read

-- a line's fault, where the line has this number
abbrev pub numbered : ℕ → LineFault → ImageFault
numbered line (line_faults.Refused why) = Bad line why
numbered line line_faults.NoMemory = OutOfMemory

-- what a call gave is what reading gives, unless memory ran out
abbrev pub IsFault : {A : Type 0} → ImageFault → Result A ImageFault → Type 0
IsFault (Bad line why) read = read ≡ Err (Bad line why)
IsFault (TooLarge what size) read = read ≡ Err (TooLarge what size)
IsFault OutOfMemory read = Unit {0}

-- so is what it gave where it didn't refuse
abbrev pub Gives : {A : Type 0} → Result A ImageFault → Result A ImageFault → Type 0
Gives (Ok x) read = read ≡ Ok x
Gives (Err fault) read = IsFault fault read

-- where the latest segment ends
abbrev pub end_of : List Part → ℕ
end_of [] = 0
end_of (p ∷ ps) = p.segment.base + p.segment.len

-- whether the segment has the bounds that every segment has
abbrev pub has_bounds : Segment → Bool
has_bounds s = (s.base % 8 == 0) && (s.len % 8 == 0) && nat_lt 0 s.len && nat_le (s.base + s.len) (2 ^ 63)

-- the part has no more bytes than its segment
abbrev pub IsShort : Part → Type 0
IsShort p = length p.bytes ≤ p.segment.len

-- the parts, the latest first, have bounds and are in order, and no part has more bytes than its segment
abbrev pub AreSound : List Part → Type 0
AreSound [] = Unit {0}
AreSound (p ∷ ps) = HasBounds p.segment × (end_of ps ≤ p.segment.base) × IsShort p × AreSound ps

-- a segment begins
abbrev pub begin : Segment → List Part → Result (List Part) Why
begin segment parts =
    if has_bounds segment then (if nat_le (end_of parts) segment.base then Ok (record { segment = segment; bytes = [] } ∷ parts) else Err Order) else Err Bounds

-- a value's bytes, the lowest first
abbrev pub value_bytes : Width → ℕ → List ℕ
value_bytes width value = bytes_low_first 0 (size_of width) value

-- values are put into the latest segment
abbrev pub put : Width → List ℕ → List Part → Result (List Part) Why
put width values [] = Err Overrun
put width values (p ∷ ps) =
    if nat_le (length p.bytes + size_of width * length values) p.segment.len then Ok (record p { bytes = p.bytes ++ flat_map (value_bytes width) values } ∷ ps) else Err Overrun

-- a start is given to a hart number that has none
abbrev pub start : ℕ → ℕ → List (Option ℕ) → Result (List (Option ℕ)) Why
start hart addr starts =
    if nat_lt hart MOST_HARTS && is_none (slice_index_or starts hart None) then Ok (slice_set starts hart (Some addr)) else Err Hart

-- what a directive with its numbers does
unfoldable pub applied : Draft → Directive → List ℕ → Result Draft Why
applied draft (Begin kind) ns =
    begin (record { base = slice_index ns 0; len = slice_index ns 1; kind = kind }) draft.parts >>= λ parts. Ok (record draft { parts = parts })
applied draft (Put width) ns = put width ns draft.parts >>= λ parts. Ok (record draft { parts = parts })
applied draft Pc ns = start (slice_index ns 0) (slice_index ns 1) draft.pcs >>= λ pcs. Ok (record draft { pcs = pcs })
applied draft Sp ns = start (slice_index ns 0) (slice_index ns 1) draft.sps >>= λ sps. Ok (record draft { sps = sps })

-- what a line does, if it isn't skipped
abbrev pub after_line : Draft → Option (Directive × List ℕ) → Result Draft Why
after_line draft None = Ok draft
after_line draft (Some line) = applied draft line.0 line.1

-- what the line of these bytes does
unfoldable pub read_line : Draft → List ℕ → Result Draft Why
read_line draft line = line_of (words_of line) >>= after_line draft

-- a refusal in the line of this number
abbrev pub at_line : {A : Type 0} → ℕ → Result A Why → Result A ImageFault
at_line line (Ok x) = Ok x
at_line line (Err why) = Err (Bad line why)

-- whether a segment is text
abbrev pub has_text : List Segment → Bool
has_text segments = list_any (λ s. is_text_segment (Some s)) segments

-- the value, if there are not too many segments and not too much memory
abbrev pub within_limits : {A : Type 0} → List Segment → A → Result A ImageFault
within_limits segments value =
    if nat_lt MOST_SEGMENTS (length segments) then Err (TooLarge Segments (length segments)) else (
    if nat_lt MOST_MEMORY (memory_size segments) then Err (TooLarge Memory (memory_size segments)) else Ok value)

-- the image of these parts in order, where the last line is the one before this number
unfoldable pub whole_image : ℕ → List Part → List (Option ℕ) → List (Option ℕ) → Result ImageRecord ImageFault
whole_image line parts pcs sps =
    if has_text (segments_of parts) then within_limits (segments_of parts) (record { parts = map (λ p. filled p.segment p.bytes) parts; pcs = pcs; sps = sps }) else Err (Bad line NoText)

-- the image that the lines give, of which the first has this number
unfoldable pub read_lines : ℕ → Draft → List (List ℕ) → Result ImageRecord ImageFault
read_lines line draft [] = whole_image line (reverse draft.parts) draft.pcs draft.sps
read_lines line draft (l ∷ ls) = at_line line (read_line draft l) >>= λ next. read_lines (line + 1) next ls

-- no hart has a start
abbrev pub no_starts : List (Option ℕ)
no_starts = replicate MOST_HARTS None

-- whether the words are those of the first line
abbrev pub is_header : List (List ℕ) → Bool
is_header words = is_header_of (codes "kimg") words

-- The image that a text means, or its first faulty line and why, or the first count over its limit.
unfoldable pub image_of_lines : List (List ℕ) → Result ImageRecord ImageFault
image_of_lines [] = Err (Bad 1 Header)
image_of_lines (l ∷ ls) =
    if is_header (words_of l) then read_lines 2 (record { parts = []; pcs = no_starts; sps = no_starts }) ls else Err (Bad 1 Header)

-- the same of a text
abbrev pub image_of : List ℕ → Result ImageRecord ImageFault
image_of text = image_of_lines (lines_of text)
