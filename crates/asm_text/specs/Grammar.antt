-- The source format as a relation: which lines are right and what each puts, and which line is the first that isn't right.
-- The words of a line are those of `words_of`; directives and what may follow what are those of the image format.
use Rattle.std.specs.Prelude.{◌≡◌, ℕ, ◌+◌, ◌^◌, ◌<◌, ◌≤◌, ◌≢◌, ◌==◌, ◌⊎◌, ◌↔◌, true, false, List, [], ◌∷◌, ◌++◌, length, Option, Some, None, Ok, Err}
use Rattle.std.specs.List.{AllByRecursion, cons_option}
use Rattle.mach_base.specs.declared.event.What.TheVariants.{Segments, Memory, SourceBytes}
use Rattle.mach_base.specs.declared.limits.TheConstants.{SOURCE_BYTES}
use Rattle.mach_base.specs.Lines.{lines_of, words_of}
use Rattle.mach_base.specs.Machine.{Part}
use Rattle.mem_map.specs.Parts.{segments_of}
use Rattle.rv_decode.specs.Fields.{decoded}
use Rattle.rv_asm.specs.Spelling.{insn_text}
use Rattle.img_text.specs.declared.fault.Why.{Why}
use Rattle.img_text.specs.declared.directive.Width.TheVariants.{Four}
use Rattle.img_text.specs.declared.directive.Directive.TheVariants.{Put}
use Rattle.img_text.specs.Directives.{line_of}
use Rattle.img_text.specs.Reading.{has_text}
use Rattle.img_text.specs.Image.{ImageRecord}
use Rattle.img_text.specs.Grammar.{Entry, last_part, parts_in, refusal_after, AreAllowed, IsImageOf, AreTooMany, AreTooLarge, HaveSegments}
use Rattle.asm_text.specs.declared.fault.SourceFault.TheVariants.{Bad, TooLarge}
use Rattle.asm_text.specs.declared.labels.Given.{Given}
use Rattle.asm_text.specs.declared.kind.LineKind.TheVariants.{Label, Instruction}
use Rattle.asm_text.specs.Kinds.{kind_of, label_of, place_after}
use Rattle.asm_text.specs.Labels.{Labels, given, labels_of}
use Rattle.asm_text.specs.Instructions.{distance_text, goes, trimmed}
use Rattle.asm_text.specs.Reading.{is_header, source_of}

-- no byte of the text is a blank
abbrev pub HasNoBlank : List ℕ → Type 0
HasNoBlank text = AllByRecursion (λ b. (b == 32) ≡ false) text

-- the text is empty or ends with a blank
abbrev pub EndsWithBlank : List ℕ → Type 0
EndsWithBlank text = (text ≡ []) ⊎ ((front : List ℕ) × (text ≡ front ++ 32 ∷ []))

-- The line is a jump or branch to a name, and this is its word at a place: the line is no spelling by itself; its last word
-- is a name that is given; and the line with the distance from the place to the name's address in place of the name is the
-- spelling of the word, which is a jump or a branch.
pub record GoesTo (labels : Labels) (place : ℕ) (line : List ℕ) (word : ℕ) : Type 0 where
  pub front : List ℕ
  pub name : List ℕ
  pub there : Given
  pub split : line ≡ front ++ name
  pub blank : EndsWithBlank front
  pub one : HasNoBlank name
  pub is_given : given labels name ≡ Some there
  pub spelling : front ++ distance_text place there.address ≡ insn_text word
  pub fits : word < 2 ^ 32
  pub goes : goes (decoded word) ≡ true
  pub other : (w : ℕ) → w < 2 ^ 32 → line ≢ insn_text w

-- the word of an instruction's line at a place: the one that it spells, or that of a jump or branch to a name
pub data IsWord (labels : Labels) : Option ℕ → List ℕ → ℕ → Type 0 where
  spelled : (place : Option ℕ) (line : List ℕ) (word : ℕ) → word < 2 ^ 32 → line ≡ insn_text word → IsWord labels place line word
  towards : (place : ℕ) (line : List ℕ) (word : ℕ) → GoesTo labels place line word → IsWord labels (Some place) line word

-- A line of this number at this place, and what it puts, if anything: a line of the image format; a label, if no line before
-- it gave its name after a segment had begun; an instruction, which puts its word as `w` does.
pub data IsLine (labels : Labels) (number : ℕ) (place : Option ℕ) : List ℕ → Option Entry → Type 0 where
  of_image : (l : List ℕ) (e : Option Entry) → line_of (words_of l) ≡ Ok e → IsLine labels number place l e
  label : (l name : List ℕ) (there : Given) → kind_of (words_of l) ≡ Label → label_of (words_of l) ≡ Some name → given labels name ≡ Some there → there.line ≡ number →
      IsLine labels number place l None
  instruction : (l : List ℕ) (word : ℕ) → kind_of (words_of l) ≡ Instruction → IsWord labels place (trimmed l) word → IsLine labels number place l (Some (Put Four, word ∷ []))

-- lines that are right by themselves, of which the first has this number and this place, and what they put in order
pub data Reads (labels : Labels) : ℕ → Option ℕ → List (List ℕ) → List Entry → Type 0 where
  nothing : (number : ℕ) (place : Option ℕ) → Reads labels number place [] []
  one_more : (number : ℕ) (place : Option ℕ) (l : List ℕ) (ls : List (List ℕ)) (e : Option Entry) (es : List Entry) → IsLine labels number place l e →
      Reads labels (number + 1) (place_after place (words_of l)) ls es → Reads labels number place (l ∷ ls) (cons_option e es)

-- the place after lines
abbrev pub place_behind : Option ℕ → List (List ℕ) → Option ℕ
place_behind place [] = place
place_behind place (l ∷ ls) = place_behind (place_after place (words_of l)) ls

-- lines of a source, of which each is right, and what they put
pub record AreLines (lines : List (List ℕ)) (es : List Entry) : Type 0 where
  pub header : List ℕ
  pub rest : List (List ℕ)
  pub split : lines ≡ header ∷ rest
  pub is_header : is_header (words_of header) ≡ true
  pub reads : Reads (labels_of rest) 2 None rest es
  pub allowed : AreAllowed [] es

-- a line isn't right after others: it is none by itself, or what it puts can't follow what they put
abbrev pub IsWrong : Labels → ℕ → Option ℕ → List Entry → List ℕ → Type 0
IsWrong labels number place before l =
    ((e : Option Entry) → ¬ (IsLine labels number place l e)) ⊎
    ((e : Entry) × IsLine labels number place l (Some e) × ((why : Why) × (refusal_after before e ≡ Some why)))

-- there is no first line of a source
pub data HasNoHeader : List (List ℕ) → Type 0 where
  no_line : HasNoHeader []
  another : (l : List ℕ) (ls : List (List ℕ)) → is_header (words_of l) ≡ false → HasNoHeader (l ∷ ls)

-- after a source's first line the line of this number is the first that isn't right
pub record IsFirstBad (lines : List (List ℕ)) (number : ℕ) : Type 0 where
  pub header : List ℕ
  pub before : List (List ℕ)
  pub line : List ℕ
  pub after : List (List ℕ)
  pub split : lines ≡ header ∷ before ++ line ∷ after
  pub is_header : is_header (words_of header) ≡ true
  pub place : number ≡ length before + 2
  pub entries : List Entry
  pub reads : Reads (labels_of (before ++ line ∷ after)) 2 None before entries
  pub allowed : AreAllowed [] entries
  pub wrong : IsWrong (labels_of (before ++ line ∷ after)) number (place_behind None before) entries line

-- what is bad with lines, and at which number: no first line, a line that isn't right, no segment of text at the end
abbrev pub IsBad : List (List ℕ) → ℕ → Type 0
IsBad lines number =
    (HasNoHeader lines × (number ≡ 1)) ⊎
    (IsFirstBad lines number ⊎
    ((es : List Entry) × AreLines lines es × (has_text (segments_of (parts_in es)) ≡ false) × (number ≡ length lines + 1)))

-- a text that isn't too long is bad at a line exactly where that is so
abbrev pub NamesTheFirstBadLine : Type 0
NamesTheFirstBadLine =
    (text : List ℕ) (number : ℕ) → (source_of text ≡ Err (Bad number)) ↔ ((length text ≤ SOURCE_BYTES) × IsBad (lines_of text) number)

-- the image of a text is what its lines mean
abbrev pub IsWhatTheLinesMean : Type 0
IsWhatTheLinesMean = (text : List ℕ) (image : ImageRecord) → source_of text ≡ Ok image → (es : List Entry) × AreLines (lines_of text) es × IsImageOf es image

-- a text is too large exactly where it has too many bytes, else where its lines have too many segments, or else too much
-- memory
abbrev pub CountsItsMemory : Type 0
CountsItsMemory =
    (text : List ℕ) (size : ℕ) →
    ((source_of text ≡ Err (TooLarge SourceBytes size)) ↔ ((size ≡ length text) × (SOURCE_BYTES < length text))) ×
    ((source_of text ≡ Err (TooLarge Segments size)) ↔ ((length text ≤ SOURCE_BYTES) × HaveSegments AreLines AreTooMany (lines_of text) size)) ×
    ((source_of text ≡ Err (TooLarge Memory size)) ↔ ((length text ≤ SOURCE_BYTES) × HaveSegments AreLines AreTooLarge (lines_of text) size))

-- the address after the bytes of a part
abbrev pub running_place : Option Part → Option ℕ
running_place None = None
running_place (Some p) = Some (p.segment.base + length p.bytes)

-- after lines that are right the place is where the next byte of the last segment stands
abbrev pub PlacesAreRunning : Type 0
PlacesAreRunning =
    (labels : Labels) (ls : List (List ℕ)) (es : List Entry) → Reads labels 2 None ls es → AreAllowed [] es → place_behind None ls ≡ running_place (last_part (parts_in es))
