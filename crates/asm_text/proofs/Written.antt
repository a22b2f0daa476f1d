-- The lines that stand for a source's, written one by one.
use Rattle.std.proofs.Common.{◌≡◌, ℕ, ◌+◌, Bool, true, cond, List, [], ◌∷◌, ◌++◌, Option, None, Ok, Err, sym, ap, ◌∙◌, append_assoc}
use Rattle.std.proofs.lemmas.List.{append-nil}
use Rattle.mach_base.specs.Lines.{lines_of, words_of}
use Rattle.asm_text.specs.Kinds.{place_after}
use Rattle.asm_text.specs.Labels.{Labels, labels_of}
use Rattle.asm_text.specs.Reading.{IsFault, source_fault, as_source, is_header, image_header, image_line, image_lines, lines_for, lines_text, source_of_lines}
use Rattle.asm_text.specs.declared.fault.SourceFault.TheVariants.{Bad}
use Rattle.asm_text.proofs.Clear.{image_of-lines_text, rest_clear}
use Rattle.img_text.specs.declared.fault.ImageFault.{ImageFault}
use Rattle.img_text.specs.declared.fault.ImageFault.TheVariants as image_faults
use Rattle.img_text.specs.Image.{ImageRecord}
use Rattle.img_text.specs.Reading.{image_of, image_of_lines, IsFault as IsImageFault}

-- a line and its end, in front of the others
joined : (out line rest : List ℕ) → (out ++ (line ++ (13 ∷ 10 ∷ []))) ++ rest ≡ out ++ (line ++ (13 ∷ 10 ∷ rest))
joined out line rest = append_assoc out (line ++ (13 ∷ 10 ∷ [])) rest ∙ ap (λ (xs : List ℕ). out ++ xs) (append_assoc line (13 ∷ 10 ∷ []) rest)

-- a line more
pub lines_more : (out whole : List ℕ) (labels : Labels) (number : ℕ) (place : Option ℕ) (lines : List (List ℕ)) (line : List ℕ) (ls : List (List ℕ)) → lines ≡ line ∷ ls → out ++ lines_text (image_lines labels number place lines) ≡ whole → (out ++ (image_line labels number place line ++ (13 ∷ 10 ∷ []))) ++ lines_text (image_lines labels (number + 1) (place_after place (words_of line)) ls) ≡ whole
unfolding lines_text image_lines
lines_more out whole labels number place lines line ls split told =
    joined out (image_line labels number place line) (lines_text (image_lines labels (number + 1) (place_after place (words_of line)) ls))
    ∙ ap (λ (xs : List (List ℕ)). out ++ lines_text (image_lines labels number place xs)) (sym split)
    ∙ told

-- no line is left
pub lines_end : (out whole : List ℕ) (labels : Labels) (number : ℕ) (place : Option ℕ) (lines : List (List ℕ)) → lines ≡ [] → out ++ lines_text (image_lines labels number place lines) ≡ whole → out ≡ whole
unfolding lines_text image_lines
lines_end out whole labels number place lines none told =
    sym (append-nil out) ∙ ap (λ (xs : List (List ℕ)). out ++ lines_text (image_lines labels number place xs)) (sym none) ∙ told

-- the first line and all others
pub whole_text : (out before : List ℕ) (labels : Labels) (ls : List (List ℕ)) → before ≡ image_header ++ (13 ∷ 10 ∷ []) → labels ≡ labels_of ls → out ≡ before ++ lines_text (image_lines labels 2 None ls) → out ≡ lines_text (image_header ∷ lines_for ls)
unfolding lines_text
whole_text out before labels ls begun same told =
    told
    ∙ ap (λ (xs : List ℕ). xs ++ lines_text (image_lines labels 2 None ls)) begun
    ∙ ap (λ (n : Labels). image_header ++ (13 ∷ 10 ∷ lines_text (image_lines n 2 None ls))) same

-- what the lines mean is what the text that stands for them means
source_is : (text first : List ℕ) (ls : List (List ℕ)) (bytes : List ℕ) → lines_of text ≡ first ∷ ls → is_header (words_of first) ≡ true → bytes ≡ lines_text (image_header ∷ lines_for ls) → source_of_lines (lines_of text) ≡ as_source (image_of bytes)
unfolding source_of_lines
source_is text first ls bytes split header is =
    ap source_of_lines split
    ∙ ap (λ (t : Bool). cond t (as_source (image_of_lines (image_header ∷ lines_for ls))) (Err (Bad 1))) header
    ∙ ap as_source (sym (image_of-lines_text ls (rest_clear text first ls split)) ∙ ap image_of (sym is))

pub source_ok : (text first : List ℕ) (ls : List (List ℕ)) (bytes : List ℕ) (image : ImageRecord) → lines_of text ≡ first ∷ ls → is_header (words_of first) ≡ true → bytes ≡ lines_text (image_header ∷ lines_for ls) → image_of bytes ≡ Ok image → source_of_lines (lines_of text) ≡ Ok image
source_ok text first ls bytes image split header is read = source_is text first ls bytes split header is ∙ ap as_source read

pub source_refused : (text first : List ℕ) (ls : List (List ℕ)) (bytes : List ℕ) (fault : ImageFault) → lines_of text ≡ first ∷ ls → is_header (words_of first) ≡ true → bytes ≡ lines_text (image_header ∷ lines_for ls) → IsImageFault fault (image_of bytes) → IsFault (source_fault fault) (source_of_lines (lines_of text))
source_refused text first ls bytes (image_faults.Bad line why) split header is read = source_is text first ls bytes split header is ∙ ap as_source read
source_refused text first ls bytes (image_faults.TooLarge what size) split header is read = source_is text first ls bytes split header is ∙ ap as_source read
source_refused text first ls bytes image_faults.OutOfMemory split header is read = tt
